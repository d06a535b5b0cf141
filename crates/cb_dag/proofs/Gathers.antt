-- The second search: what leads to a root.
use Rattle.std.proofs.Common.{◌≡◌, ◌≢◌, ◌∙◌, sym, ap, refl, subst, inl, inr, arith, ℕ, ◌+◌, ◌<◌, ◌≤◌, ◌⊎◌, Bool, false, List, [], ◌∷◌, length, get_or, set, Some, None, replicate, cond, count_by, nat_le}
use Rattle.std.proofs.lemmas.Bool.{both_ways, cases_eq, cases_lt, cond-false, cond-true, le-leb, lt-leb}
use Rattle.std.proofs.lemmas.List.Sums.{sum_by-set}
use Rattle.std.proofs.lemmas.List.{get_or-replicate, get_or-set_other, get_or-set_same, length-replicate, length-set}
use Rattle.cb_dag.specs.Graphs.{Along, HasEdge, Here, IsSquare, Leads, Mutual}
use Rattle.cb_dag.specs.Marks.{IsNextEdge}
use Rattle.cb_dag.specs.Search.{AreRoots, ComesBack, IsFinishing, IsGathering, IsTurned, is_in, roots_left}
use Rattle.cb_dag.proofs.Among.{in_cases, in_rest, not_front, not_in, not_rest}
use Rattle.cb_dag.proofs.Grids.{edge_from}
use Rattle.cb_dag.proofs.Paths.{alone, leads_on, one_edge, turned}

-- where no node has a root yet
pub no_roots : (rows : List (List Bool)) (roots : List ℕ) → roots ≡ replicate (length rows) (length rows) → AreRoots rows roots
no_roots rows roots is = record {
  each = ap length is ∙ length-replicate (length rows) (length rows);
  own = λ a within known. absurd (omega (arith, known, none a within));
  alike = λ a b within other known both. absurd (omega (arith, known, none a within));
}
  where
    none : (a : ℕ) → a < length rows → get_or roots a 0 ≡ length rows
    none a within = ap (λ all. get_or all a 0) is ∙ get_or-replicate (length rows) a (length rows) 0 within

module _ (rows : List (List Bool)) (old : List ℕ) (root : ℕ) (inside : root < length rows) (before : AreRoots rows old) where
  -- the root has no root yet, so no node has it as its own
  no_root : length rows ≤ get_or old root 0 → (b : ℕ) → b < length rows → get_or old b 0 ≡ root → ⊥
  no_root new b within at =
      let known : get_or old b 0 < length rows = omega (arith, at, inside) in
      let both : Mutual (HasEdge rows) b root = subst (λ n. Mutual (HasEdge rows) b n) at (before.own b within known) in
      let same : get_or old root 0 ≡ get_or old b 0 = before.alike b root within inside known both in
      omega (arith, same, known, new)

  -- a root alone
  pub gather_first : (roots waiting : List ℕ) → length rows ≤ get_or old root 0 → roots ≡ set old root root → waiting ≡ root ∷ []
      → IsGathering rows old roots root waiting (length rows) 0
  gather_first roots waiting new is alone = subst (λ nodes. IsGathering rows old roots root nodes (length rows) 0) (sym alone) (record {
    each = ap length is ∙ length-set old root root ∙ before.each;
    kept = λ a within known. ap (λ all. get_or all a 0) is
        ∙ get_or-set_other old root a root 0 (λ same. let there : get_or old root 0 < length rows = subst (λ n. get_or old n 0 < length rows) same known in omega (arith, new, there));
    added = λ a within known. elim (cases_eq a root) [
      | inl same ↦ inr (subst (λ n. get_or roots n 0 ≡ root) (sym same) first, subst (λ n. Leads (HasEdge rows) n root) (sym same) Here)
      | inr apart ↦ inl (subst (λ n. n < length rows) (ap (λ all. get_or all a 0) is ∙ get_or-set_other old root a root 0 apart) known)
    ];
    first = first;
    rooted = λ a there. elim (in_cases a root [] there) [
      | inl same ↦ (subst (λ n. n < length rows) same inside, subst (λ n. get_or roots n 0 ≡ root) same first, subst (λ n. Leads (HasEdge rows) n root) same Here)
      | inr none ↦ absurd (both_ways false refl none)
    ];
    closed = λ a b within at out upto edge. elim (cases_eq b root) [
      | inl same ↦ absurd (not_front b root [] out (sym same))
      | inr apart ↦ absurd (no_root new b within (sym (ap (λ all. get_or all b 0) is ∙ get_or-set_other old root b root 0 apart) ∙ at))
    ];
  })
    where
      first : get_or roots root 0 ≡ root
      first = ap (λ all. get_or all root 0) is ∙ get_or-set_same old root root 0 (omega (arith, inside, before.each))

  -- all that leads to the root has a root, and what got this one is of its part
  pub gathered : (now : List ℕ) → length rows ≤ get_or old root 0 → IsSquare rows → ComesBack rows old root → IsGathering rows old now root [] (length rows) 0 → AreRoots rows now
  gathered now new square back gathering = record { each = gathering.each; own = own; alike = alike }
    where
      -- a node that got the root
      of_part : (a : ℕ) → a < length rows → length rows ≤ get_or old a 0 → Leads (HasEdge rows) a root → Mutual (HasEdge rows) a root
      of_part a within unknown path =
          let found : (c : ℕ) × (c < length rows) × Mutual (HasEdge rows) a c × ((c ≡ root) ⊎ (get_or old c 0 < length rows)) = back a within path in
          elim found.3 [
            | inl same ↦ subst (λ n. Mutual (HasEdge rows) a n) same found.2
            | inr known ↦ absurd (let same : get_or old a 0 ≡ get_or old found.0 0 = before.alike found.0 a found.1 within known (turned found.2) in omega (arith, same, known, unknown))
          ]

      new_part : (a : ℕ) → a < length rows → length rows ≤ get_or old a 0 → get_or now a 0 < length rows → (get_or now a 0 ≡ root) × Mutual (HasEdge rows) a root
      new_part a within unknown known = elim (gathering.added a within known) [
        | inl earlier ↦ absurd (omega (arith, earlier, unknown))
        | inr added ↦ (added.0, of_part a within unknown added.1)
      ]

      own : (a : ℕ) → a < length rows → get_or now a 0 < length rows → Mutual (HasEdge rows) a (get_or now a 0)
      own a within known = elim (cases_lt (get_or old a 0) (length rows)) [
        | inl earlier ↦ subst (λ n. Mutual (HasEdge rows) a n) (sym (gathering.kept a within earlier)) (before.own a within earlier)
        | inr unknown ↦
            let found : (get_or now a 0 ≡ root) × Mutual (HasEdge rows) a root = new_part a within unknown known in
            subst (λ n. Mutual (HasEdge rows) a n) (sym found.0) found.1
      ]

      -- a node of the root's part had no root before
      unknown_part : (b : ℕ) → b < length rows → Mutual (HasEdge rows) b root → length rows ≤ get_or old b 0
      unknown_part b within both = elim (cases_lt (get_or old b 0) (length rows)) [
        | inl known ↦ absurd (let same : get_or old root 0 ≡ get_or old b 0 = before.alike b root within inside known both in omega (arith, same, known, new))
        | inr unknown ↦ unknown
      ]

      -- back along a path to a node that has the root, from a node of its part
      along : (b z : ℕ) → b < length rows → Leads (HasEdge rows) root b → Leads (HasEdge rows) z root → z < length rows → get_or now z 0 ≡ root → Leads (HasEdge rows) b z
          → get_or now b 0 ≡ root
      along b z within from_root on inside' at Here = at
      along b z within from_root on inside' at (Along {b = y} path edge) =
          let near : y < length rows = edge_from rows y z edge in
          let both : Mutual (HasEdge rows) y root = record { there = leads_on (one_edge edge) on; back = leads_on from_root path } in
          let known : get_or now y 0 < length rows = gathering.closed y z inside' at refl (λ past. absurd (let out : z ≡ length rows = past in omega (arith, out, inside'))) edge in
          along b y within from_root both.there near (new_part y near (unknown_part y near both) known).0 path

      alike : (a b : ℕ) → a < length rows → b < length rows → get_or now a 0 < length rows → Mutual (HasEdge rows) a b → get_or now b 0 ≡ get_or now a 0
      alike a b within other known both = elim (cases_lt (get_or old a 0) (length rows)) [
        | inl earlier ↦
            let same : get_or old b 0 ≡ get_or old a 0 = before.alike a b within other earlier both in
            gathering.kept b other (omega (arith, same, earlier)) ∙ same ∙ sym (gathering.kept a within earlier)
        | inr unknown ↦
            let found : (get_or now a 0 ≡ root) × Mutual (HasEdge rows) a root = new_part a within unknown known in
            along b root other (leads_on found.1.back both.there) Here inside gathering.first (leads_on both.back found.1.there) ∙ sym found.0
      ]

-- the nodes from which edges lead to one
module _ (rows turned' : List (List Bool)) (old : List ℕ) (root node : ℕ) (within : node < length rows) (turn : IsTurned rows turned') where
  pub take_first : (now waiting : List ℕ) → IsGathering rows old now root (node ∷ waiting) (length rows) 0 → IsGathering rows old now root waiting node 0
  take_first now waiting before = record {
    each = before.each;
    kept = before.kept;
    added = before.added;
    first = before.first;
    rooted = λ a there. before.rooted a (in_rest a node waiting there);
    closed = λ a b inside at out upto edge.
        before.closed a b inside at (not_in b node waiting (λ same. let none : a < 0 = upto (sym same) in omega (arith, none)) out)
        (λ past. absurd (omega (arith, past, inside))) edge;
  }

  pub take_known : (now waiting : List ℕ) (from other : ℕ) → IsGathering rows old now root waiting node from → IsNextEdge turned' node from (Some other)
      → get_or now other 0 < length rows → IsGathering rows old now root waiting node (other + 1)
  take_known now waiting from other before next known = record {
    each = before.each;
    kept = before.kept;
    added = before.added;
    first = before.first;
    rooted = before.rooted;
    closed = λ a b inside at out upto edge. elim (cases_eq a other) [
      | inl same ↦ subst (λ n. get_or now n 0 < length rows) (sym same) known
      | inr apart ↦ before.closed a b inside at out
          (λ here. elim (cases_lt a from) [
            | inl l ↦ l
            | inr p ↦ absurd (both_ways _ (next.3 a p (let up : a < other + 1 = upto here in omega (arith, up, apart))) (turn.all a node (subst (λ n. HasEdge rows a n) here edge)))
          ]) edge
    ];
  }

  pub take_new : (now now' waiting waiting' : List ℕ) (from other : ℕ) → root < length rows → Leads (HasEdge rows) node root → IsGathering rows old now root waiting node from
      → IsNextEdge turned' node from (Some other) → length rows ≤ get_or now other 0 → now' ≡ set now other root → waiting' ≡ other ∷ waiting
      → IsGathering rows old now' root waiting' node (other + 1)
  take_new now now' waiting waiting' from other inside path before next unknown is more =
      subst (λ nodes. IsGathering rows old now' root nodes node (other + 1)) (sym more) (record {
        each = ap length is ∙ length-set now other root ∙ before.each;
        kept = λ a near known. elim (cases_eq a other) [
          | inl same ↦ absurd (let there : get_or now other 0 < length rows = subst (λ n. get_or now n 0 < length rows) same (subst (λ n. n < length rows) (sym (before.kept a near known)) known) in omega (arith, there, unknown))
          | inr apart ↦ at_other a apart ∙ before.kept a near known
        ];
        added = λ a near known. elim (cases_eq a other) [
          | inl same ↦ inr (subst (λ n. get_or now' n 0 ≡ root) (sym same) at_new, subst (λ n. Leads (HasEdge rows) n root) (sym same) leads)
          | inr apart ↦ elim (before.added a near (subst (λ n. n < length rows) (at_other a apart) known)) [
            | inl earlier ↦ inl earlier
            | inr added ↦ inr (at_other a apart ∙ added.0, added.1)
          ]
        ];
        first = elim (cases_eq root other) [
          | inl same ↦ subst (λ n. get_or now' n 0 ≡ root) (sym same) at_new
          | inr apart ↦ at_other root apart ∙ before.first
        ];
        rooted = λ a there. elim (in_cases a other waiting there) [
          | inl same ↦ (subst (λ n. n < length rows) same here, subst (λ n. get_or now' n 0 ≡ root) same at_new, subst (λ n. Leads (HasEdge rows) n root) same leads)
          | inr behind ↦
              let was : (a < length rows) × (get_or now a 0 ≡ root) × Leads (HasEdge rows) a root = before.rooted a behind in
              (was.0, at_other a (λ same. let there : get_or now other 0 ≡ root = subst (λ n. get_or now n 0 ≡ root) same was.1 in omega (arith, there, inside, unknown)) ∙ was.1, was.2)
        ];
        closed = λ a b near at out upto edge.
            let apart : b ≢ other = λ same. not_front b other waiting out (sym same) in
            let was : get_or now b 0 ≡ root = sym (at_other b apart) ∙ at in
            elim (cases_eq a other) [
              | inl same ↦ subst (λ n. n < length rows) (sym (subst (λ n. get_or now' n 0 ≡ root) (sym same) at_new)) inside
              | inr elsewhere ↦ subst (λ n. n < length rows) (sym (at_other a elsewhere)) (before.closed a b near was (not_rest b other waiting out)
                  (λ at_node. elim (cases_lt a from) [
                    | inl l ↦ l
                    | inr p ↦ absurd (both_ways _ (next.3 a p (let up : a < other + 1 = upto at_node in omega (arith, up, elsewhere))) (turn.all a node (subst (λ n. HasEdge rows a n) at_node edge)))
                  ]) edge)
            ];
      })
    where
      here : other < length rows
      here = omega (arith, next.1, turn.nodes)

      at_new : get_or now' other 0 ≡ root
      at_new = ap (λ all. get_or all other 0) is ∙ get_or-set_same now other root 0 (omega (arith, here, before.each))

      at_other : (a : ℕ) → a ≢ other → get_or now' a 0 ≡ get_or now a 0
      at_other a apart = ap (λ all. get_or all a 0) is ∙ get_or-set_other now other a root 0 apart

      leads : Leads (HasEdge rows) other root
      leads = leads_on (one_edge (turn.listed other node next.2)) path

  pub take_all : (now waiting : List ℕ) (from : ℕ) → IsGathering rows old now root waiting node from → IsNextEdge turned' node from None
      → IsGathering rows old now root waiting (length rows) 0
  take_all now waiting from before none = record {
    each = before.each;
    kept = before.kept;
    added = before.added;
    first = before.first;
    rooted = before.rooted;
    closed = λ a b inside at out upto edge. before.closed a b inside at out
        (λ here. elim (cases_lt a from) [
          | inl l ↦ l
          | inr p ↦ absurd (both_ways _ (none a p) (turn.all a node (subst (λ n. HasEdge rows a n) here edge)))
        ]) edge;
  }

-- the next node of those that were left
pub comes_back : (rows : List (List Bool)) (roots left rest : List ℕ) (node : ℕ) → IsFinishing (HasEdge rows) (length rows) left → left ≡ node ∷ rest
    → ((a : ℕ) → a < length rows → is_in a left ≡ false → get_or roots a 0 < length rows) → ComesBack rows roots node
comes_back rows roots left rest node finishing is known = λ a within path.
    let found : (c : ℕ) × (c < length rows) × Mutual (HasEdge rows) a c × (is_in c rest ≡ false) = (subst (IsFinishing (HasEdge rows) (length rows)) is finishing).0 a within path in (
      found.0,
      found.1,
      found.2,
      elim (cases_eq found.0 node) [
        | inl same ↦ inl same
        | inr apart ↦ inr (known found.0 found.1 (subst (λ nodes. is_in found.0 nodes ≡ false) (sym is) (not_in found.0 node rest (λ same. apart (sym same)) found.3)))
      ],
    )

pub known_but : (rows : List (List Bool)) (roots roots' left rest : List ℕ) (node : ℕ) → left ≡ node ∷ rest → ((a : ℕ) → a < length rows → is_in a left ≡ false → get_or roots a 0 < length rows)
    → get_or roots' node 0 < length rows → ((a : ℕ) → a < length rows → get_or roots a 0 < length rows → get_or roots' a 0 < length rows)
    → (a : ℕ) → a < length rows → is_in a rest ≡ false → get_or roots' a 0 < length rows
known_but rows roots roots' left rest node is known here kept = λ a within out. elim (cases_eq a node) [
  | inl same ↦ subst (λ n. get_or roots' n 0 < length rows) (sym same) here
  | inr apart ↦ kept a within (known a within (subst (λ nodes. is_in a nodes ≡ false) (sym is) (not_in a node rest (λ same. apart (sym same)) out)))
]

-- a node that gets a root and waits is less to do than one without
fewer : (n root : ℕ) (roots : List ℕ) (node : ℕ) → node < length roots → n ≤ get_or roots node 0 → root < n → count_by (nat_le n) (set roots node root) + 1 ≡ count_by (nat_le n) roots
fewer n root roots node within unknown known =
    let changed = sum_by-set (λ r. cond (nat_le n r) 1 0) roots node root 0 within in
    let one : ◌≡◌ {A = ℕ} (cond (nat_le n (get_or roots node 0)) 1 0) 1 = cond-true (nat_le n (get_or roots node 0)) 1 0 (le-leb n (get_or roots node 0) unknown) in
    let none : ◌≡◌ {A = ℕ} (cond (nat_le n root) 1 0) 0 = cond-false (nat_le n root) 1 0 (lt-leb n root known) in
    omega (arith, changed, one, none)

pub one_less : (n : ℕ) (roots roots' waiting waiting' : List ℕ) (node root most : ℕ) → node < length roots → n ≤ get_or roots node 0 → root < n → roots' ≡ set roots node root
    → waiting' ≡ node ∷ waiting → roots_left n roots waiting ≤ most → roots_left n roots' waiting' ≤ most
one_less n roots roots' waiting waiting' node root most within unknown known is more before =
    omega (arith, before, fewer n root roots node within unknown known, ap (count_by (nat_le n)) is, ap length more)
