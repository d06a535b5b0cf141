-- Edges listed one by one.
use Rattle.std.proofs.Common.{◌≡◌, ◌≢◌, ◌∙◌, sym, ap, subst, inl, inr, arith, ℕ, ◌+◌, ◌<◌, ◌≤◌, ◌⊎◌, Bool, List, [], ◌∷◌, ◌++◌, length, get_or, Some, None}
use Rattle.std.specs.List.{Contains}
use Rattle.std.proofs.lemmas.Bool.{both_ways, cases_eq, cases_lt}
use Rattle.std.proofs.lemmas.List.{get_or_append_left, get_or_push, length_push}
use Rattle.std.proofs.lemmas.List.Elements.{Contains-append_left, Contains-get_or, Contains-push, Contains-push_cases}
use Rattle.cb_dag.specs.Graphs.{HasEdge}
use Rattle.cb_dag.specs.Listing.{HasMoreEdges, IsListing}
use Rattle.cb_dag.specs.Marks.{IsNextEdge}
use Rattle.cb_dag.specs.Parts.{Before, HasPair, IsAscending, most_edges}
use Rattle.cb_dag.specs.Search.{UpTo}

pub none_listed : (rows : List (List Bool)) (edges : List (ℕ × ℕ)) → edges ≡ [] → IsListing rows edges 0 0
none_listed rows edges is = record {
  ascending = λ i j order within. absurd (let none : j < 0 = subst (λ all. j < length all) is within in omega (arith, none));
  listed = λ a b there. absurd (let none : there.0 < 0 = subst (λ all. there.0 < length all) is there.1 in omega (arith, none));
  all = λ a b differ edge up. absurd (elim up [ inl early ↦ omega (arith, early) | inr late ↦ (let none : b < 0 = late.1 in omega (arith, none)) ]);
  few = omega (arith, ap length is);
}

-- an edge behind others that come before it
ascending_push : (edges : List (ℕ × ℕ)) (last : ℕ × ℕ) → IsAscending edges → ((i : ℕ) → i < length edges → Before (get_or edges i (0, 0)) last) → IsAscending (edges ++ last ∷ [])
ascending_push edges last ascending before = λ i j order within.
    let up : j < length edges + 1 = subst (λ n. j < n) (length_push edges last) within in
    let low : i < length edges = omega (arith, order, up) in
    subst (λ pair. Before pair (get_or (edges ++ last ∷ []) j (0, 0))) (sym (get_or_append_left edges (last ∷ []) (0, 0) i low))
    (elim (cases_lt j (length edges)) [
      | inl l ↦ subst (λ pair. Before (get_or edges i (0, 0)) pair) (sym (get_or_append_left edges (last ∷ []) (0, 0) j l)) (ascending i j order l)
      | inr p ↦ subst (λ pair. Before (get_or edges i (0, 0)) pair) (sym (get_or_push edges last (0, 0) j (let at : length edges ≡ j = omega (arith, up, p) in at))) (before i low)
    ])

module _ (rows : List (List Bool)) (edges : List (ℕ × ℕ)) (node from : ℕ) (before : IsListing rows edges node from) where
  up_before : (other : ℕ) → from ≤ other → (i : ℕ) → i < length edges → Before (get_or edges i (0, 0)) (node, other)
  up_before other past i within =
      let pair = get_or edges i (0, 0) in
      elim (before.listed pair.0 pair.1 (Contains-get_or edges i (0, 0) within)).2 [
        | inl early ↦ inl early
        | inr late ↦ inr (late.0, omega (arith, late.1, past))
      ]

  module _ (other : ℕ) (next : IsNextEdge rows node from (Some other)) where
    near : (a b : ℕ) → HasEdge rows a b → UpTo a b node (other + 1) → UpTo a b node from ⊎ ((a ≡ node) × (b ≡ other))
    near a b edge up = elim up [
      | inl early ↦ inl (inl early)
      | inr late ↦ elim (cases_eq b other) [
        | inl same ↦ inr (late.0, same)
        | inr apart ↦ elim (cases_lt b from) [
          | inl l ↦ inl (inr (late.0, l))
          | inr p ↦ absurd (both_ways _ (next.3 b p (omega (arith, late.1, apart))) (subst (λ n. HasEdge rows n b) late.0 edge))
        ]
      ]
    ]

    further : (a b : ℕ) → UpTo a b node from → UpTo a b node (other + 1)
    further a b up = elim up [ inl early ↦ inl early | inr late ↦ inr (late.0, omega (arith, late.1, next.0)) ]

    -- an edge from a node to itself isn't listed
    pub list_same : other ≡ node → IsListing rows edges node (other + 1)
    list_same same = record {
      ascending = before.ascending;
      listed = λ a b there. let was = before.listed a b there in (was.0, was.1, further a b was.2);
      all = λ a b differ edge up. elim (near a b edge up) [
        | inl earlier ↦ before.all a b differ edge earlier
        | inr here ↦ absurd (differ (here.0 ∙ sym same ∙ sym here.1))
      ];
      few = before.few;
    }

    listed_more : other ≢ node → (a b : ℕ) → HasPair (edges ++ (node, other) ∷ []) a b → (a ≢ b) × HasEdge rows a b × UpTo a b node (other + 1)
    listed_more differ a b there = elim (Contains-push_cases edges (node, other) (a, b) there) [
      | inl earlier ↦ let was = before.listed a b earlier in (was.0, was.1, further a b was.2)
      | inr last ↦
          let one : node ≡ a = ap (λ (p : ℕ × ℕ). p.0) last in
          let two : other ≡ b = ap (λ (p : ℕ × ℕ). p.1) last in
          (λ same. differ (two ∙ sym same ∙ sym one), subst (λ n. HasEdge rows n b) one (subst (λ n. HasEdge rows node n) two next.2), inr (sym one, omega (arith, two)))
    ]

    pub list_more : other ≢ node → (edges' : List (ℕ × ℕ)) → edges' ≡ edges ++ (node, other) ∷ [] → length edges < most_edges → IsListing rows edges' node (other + 1)
    list_more differ edges' is few = subst (λ all. IsListing rows all node (other + 1)) (sym is) (record {
      ascending = ascending_push edges (node, other) before.ascending (up_before other next.0);
      listed = listed_more differ;
      all = λ a b apart edge up. elim (near a b edge up) [
        | inl earlier ↦ Contains-append_left edges ((node, other) ∷ []) (a, b) (before.all a b apart edge earlier)
        | inr here ↦ subst (λ (p : ℕ × ℕ). Contains (edges ++ (node, other) ∷ []) p) (sym (pair here.0 here.1)) (Contains-push edges (node, other))
      ];
      few = omega (arith, few, length_push edges (node, other));
    })
      where
        pair : {a b : ℕ} → a ≡ node → b ≡ other → ◌≡◌ {A = ℕ × ℕ} (a, b) (node, other)
        pair one two = cc

    pub list_many : other ≢ node → most_edges ≤ length edges → HasMoreEdges rows
    list_many differ many = record {
      edges = edges ++ (node, other) ∷ [];
      ascending = ascending_push edges (node, other) before.ascending (up_before other next.0);
      listed = λ a b there. let was = listed_more differ a b there in (was.0, was.1);
      many = omega (arith, many, length_push edges (node, other));
    }

  pub list_row_end : IsNextEdge rows node from None → IsListing rows edges (node + 1) 0
  list_row_end none = record {
    ascending = before.ascending;
    listed = λ a b there. let was = before.listed a b there in
        (was.0, was.1, inl (elim was.2 [ inl early ↦ omega (arith, early) | inr late ↦ omega (arith, late.0) ]));
    all = λ a b differ edge up. before.all a b differ edge (elim up [
      | inl early ↦ elim (cases_eq a node) [
        | inl same ↦ elim (cases_lt b from) [
          | inl l ↦ inr (same, l)
          | inr p ↦ absurd (both_ways _ (none b p) (subst (λ n. HasEdge rows n b) same edge))
        ]
        | inr apart ↦ inl (omega (arith, early, apart))
      ]
      | inr late ↦ absurd (let no : b < 0 = late.1 in omega (arith, no))
    ]);
    few = before.few;
  }
