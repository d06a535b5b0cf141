-- Edges put at other places, one by one.
use Rattle.std.proofs.Common.{◌≡◌, sym, subst, inl, inr, arith, ℕ, ◌+◌, ◌<◌, ◌≤◌, Bool, false, List, length, Some, None, replicate}
use Rattle.std.proofs.lemmas.Bool.{both_ways, cases_eq, cases_lt}
use Rattle.cb_dag.specs.Graphs.{HasEdge, IsSquare, with_edge}
use Rattle.cb_dag.specs.Marks.{IsNextEdge}
use Rattle.cb_dag.specs.Search.{IsCopy, IsTurned, turned_place}
use Rattle.cb_dag.proofs.Grids.{edge_from, empty_grid, no_edge, with_edge_cases, with_edge_kept, with_edge_same}

module _ (rows copy : List (List Bool)) (size : ℕ) (place : ℕ → ℕ → ℕ × ℕ) where
  pub copy_none : copy ≡ replicate size (replicate size false) → IsCopy rows copy size place 0 0
  copy_none is = record {
    nodes = (empty_grid size copy is).0;
    square = (empty_grid size copy is).1;
    listed = λ p q edge. absurd (both_ways _ (no_edge size p q) (subst (λ grid. HasEdge grid p q) is edge));
    all = λ a b edge up. absurd (elim up [ inl early ↦ omega (arith, early) | inr late ↦ (let none : b < 0 = late.1 in omega (arith, none)) ]);
  }

  pub copy_next : (copy' : List (List Bool)) (node from other : ℕ) → IsCopy rows copy size place node from → IsNextEdge rows node from (Some other)
      → (place node other).0 < size → (place node other).1 < size → IsSquare copy' → copy' ≡ with_edge copy (place node other).0 (place node other).1
      → length copy' ≡ size → IsCopy rows copy' size place node (other + 1)
  copy_next copy' node from other before next first second square is count = record {
    nodes = count;
    square = square;
    listed = λ p q edge. elim (with_edge_cases copy (place node other).0 (place node other).1 p q (omega (arith, first, before.nodes)) (subst (λ grid. HasEdge grid p q) is edge)) [
      | inl here ↦ (node, other, next.2, here.0, here.1)
      | inr there ↦ before.listed p q there
    ];
    all = λ a b edge up. subst (λ grid. HasEdge grid (place a b).0 (place a b).1) (sym is)
        (elim up [
          | inl early ↦ kept a b (before.all a b edge (inl early))
          | inr late ↦ elim (cases_eq b other) [
            | inl same ↦ here a b late.0 same
            | inr apart ↦ elim (cases_lt b from) [
              | inl l ↦ kept a b (before.all a b edge (inr (late.0, l)))
              | inr p ↦ absurd (both_ways _ (next.3 b p (omega (arith, late.1, apart))) (subst (λ n. HasEdge rows n b) late.0 edge))
            ]
          ]
        ]);
  }
    where
      kept : (a b : ℕ) → HasEdge copy (place a b).0 (place a b).1 → HasEdge (with_edge copy (place node other).0 (place node other).1) (place a b).0 (place a b).1
      kept a b edge = with_edge_kept copy (place node other).0 (place node other).1 (place a b).0 (place a b).1 edge

      here : (a b : ℕ) → a ≡ node → b ≡ other → HasEdge (with_edge copy (place node other).0 (place node other).1) (place a b).0 (place a b).1
      here a b one two =
          subst (λ n. HasEdge (with_edge copy (place node other).0 (place node other).1) (place n b).0 (place n b).1) (sym one)
          (subst (λ n. HasEdge (with_edge copy (place node other).0 (place node other).1) (place node n).0 (place node n).1) (sym two)
          (with_edge_same copy (place node other).0 (place node other).1 before.square (omega (arith, first, before.nodes)) (omega (arith, second, before.nodes))))

  pub copy_row : (node from : ℕ) → IsCopy rows copy size place node from → IsNextEdge rows node from None → IsCopy rows copy size place (node + 1) 0
  copy_row node from before none = record {
    nodes = before.nodes;
    square = before.square;
    listed = before.listed;
    all = λ a b edge up. elim (cases_eq a node) [
      | inl same ↦ elim (cases_lt b from) [
        | inl l ↦ before.all a b edge (inr (same, l))
        | inr p ↦ absurd (both_ways _ (none b p) (subst (λ n. HasEdge rows n b) same edge))
      ]
      | inr apart ↦ before.all a b edge (inl (elim up [ inl early ↦ omega (arith, early, apart) | inr late ↦ (let no : b < 0 = late.1 in omega (arith, no)) ]))
    ];
  }

  pub copy_all : (node : ℕ) → length rows ≤ node → IsCopy rows copy size place node 0 → (a b : ℕ) → HasEdge rows a b → HasEdge copy (place a b).0 (place a b).1
  copy_all node past copied a b edge = copied.all a b edge (inl (let within : a < length rows = edge_from rows a b edge in omega (arith, within, past)))

pub turned_all : (rows copy : List (List Bool)) (node : ℕ) → length rows ≤ node → IsCopy rows copy (length rows) turned_place node 0 → IsTurned rows copy
turned_all rows copy node past copied = record {
  nodes = copied.nodes;
  listed = λ a b edge. let found = copied.listed b a edge in subst (λ n. HasEdge rows n b) (sym found.4) (subst (λ n. HasEdge rows found.0 n) (sym found.3) found.2);
  all = λ a b edge. copy_all rows copy (length rows) turned_place node past copied a b edge;
}
