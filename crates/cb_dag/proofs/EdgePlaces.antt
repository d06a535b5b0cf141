-- The places of edges, one by one.
use Rattle.std.proofs.Common.{◌≡◌, ◌∙◌, sym, ap, inl, inr, arith, ℕ, ◌+◌, ◌<◌, Bool, true, false, List, [], ◌∷◌, ◌++◌, length, get_or, set, take, cond, eqb, replicate}
use Rattle.std.proofs.lemmas.Bool.{cases_eq, cond-false, cond-true, eq-eqb, ne_eqb}
use Rattle.std.proofs.lemmas.List.{append-nil, get_or-set_other, get_or-set_same, length-replicate, get_or-replicate, length-set, take_more, length-take-le}
use Rattle.cb_dag.specs.Places.{AreEdgesAt, edges_at, end_of, places}
use Rattle.cb_dag.specs.declared.ends.End.{End}
use Rattle.cb_dag.specs.declared.ends.End.TheVariants.{Finish, Start}

pub places_push : {X : Type 0} (test : X → Bool) (from : ℕ) (xs : List X) (x : X) → places test from (xs ++ x ∷ []) ≡ places test from xs ++ cond (test x) ((from + length xs) ∷ []) []
places_push test from [] x = ap (λ n. cond (test x) (n ∷ []) []) (let at : from ≡ from + 0 = omega arith in at)
places_push test from (y ∷ ys) x =
    let rest = places_push test (from + 1) ys x ∙ ap (λ n. places test (from + 1) ys ++ cond (test x) (n ∷ []) []) (let at : (from + 1) + length ys ≡ from + length (y ∷ ys) = omega arith in at) in
    elim (test y) as (λ b. cond b (from ∷ places test (from + 1) (ys ++ x ∷ [])) (places test (from + 1) (ys ++ x ∷ [])) ≡ cond b (from ∷ places test (from + 1) ys) (places test (from + 1) ys) ++ cond (test x) ((from + length (y ∷ ys)) ∷ []) []) [
      | true ↦ ap (λ all. from ∷ all) rest
      | false ↦ rest
    ]

-- lists with the place of one edge more
pub edges_more : (end : End) (parts : ℕ) (edges : List (ℕ × ℕ)) (lists lists' : List (List ℕ)) (index part : ℕ) (list : List ℕ) → index < length edges → AreEdgesAt end parts (take index edges) lists
    → part < parts → part ≡ end_of end (get_or edges index (0, 0)) → list ≡ get_or lists part [] ++ index ∷ [] → lists' ≡ set lists part list → AreEdgesAt end parts (take (index + 1) edges) lists'
edges_more end parts edges lists lists' index part list within before low is more new = record {
  each = ap length new ∙ length-set lists part list ∙ before.each;
  at = λ other small. ap (λ all. get_or all other []) new ∙ elim (cases_eq other part) [
    | inl same ↦
        ap (λ n. get_or (set lists part list) n []) same
        ∙ get_or-set_same lists part list [] (omega (arith, low, before.each)) ∙ more
        ∙ ap (λ front. front ++ index ∷ []) (before.at part low)
        ∙ sym (pushed part ∙ ap (λ all. edges_at end part (take index edges) ++ all) (cond-true (eqb (end_of end (get_or edges index (0, 0))) part) (index ∷ []) [] (eq-eqb (end_of end (get_or edges index (0, 0))) part (sym is))))
        ∙ ap (λ n. edges_at end n (take (index + 1) edges)) (sym same)
    | inr apart ↦
        get_or-set_other lists part other list [] apart ∙ before.at other small
        ∙ sym (pushed other
        ∙ ap (λ all. edges_at end other (take index edges) ++ all) (cond-false (eqb (end_of end (get_or edges index (0, 0))) other) (index ∷ []) [] (ne_eqb (end_of end (get_or edges index (0, 0))) other (λ here. apart (sym here ∙ sym is))))
        ∙ append-nil (edges_at end other (take index edges)))
  ];
}
  where
    pushed : (p : ℕ) → edges_at end p (take (index + 1) edges) ≡ edges_at end p (take index edges) ++ cond (eqb (end_of end (get_or edges index (0, 0))) p) (index ∷ []) []
    pushed p =
        ap (edges_at end p) (take_more edges index (0, 0) within)
        ∙ places_push (λ edge. eqb (end_of end edge) p) 0 (take index edges) (get_or edges index (0, 0))
        ∙ ap (λ n. edges_at end p (take index edges) ++ cond (eqb (end_of end (get_or edges index (0, 0))) p) (n ∷ []) []) (omega (arith, length-take-le index edges (omega (arith, within))))

pub edges_none : (end : End) (parts : ℕ) (edges : List (ℕ × ℕ)) (lists : List (List ℕ)) → lists ≡ replicate parts [] → AreEdgesAt end parts (take 0 edges) lists
edges_none end parts edges lists is = record {
  each = ap length is ∙ length-replicate parts [];
  at = λ part low. ap (λ all. get_or all part []) is ∙ get_or-replicate parts part [] [] low;
}

pub end_within : (end : End) (parts : ℕ) (edge : ℕ × ℕ) → (edge.0 < parts) × (edge.1 < parts) → end_of end edge < parts
end_within Start parts edge within = within.0
end_within Finish parts edge within = within.1
