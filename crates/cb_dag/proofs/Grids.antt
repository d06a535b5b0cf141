-- Grids of marks: without edges, and with one edge more.
use Rattle.std.proofs.Common.{◌≡◌, ◌∙◌, sym, ap, subst, inl, inr, arith, ℕ, ◌<◌, ◌⊎◌, Bool, true, false, List, [], length, get_or, set, replicate}
use Rattle.std.proofs.lemmas.Bool.{both_ways, cases_eq, cases_lt}
use Rattle.std.proofs.lemmas.List.{get_or-replicate, get_or-set_other, get_or-set_same, get_or_past, length-replicate}
use Rattle.cb_dag.specs.Graphs.{HasEdge, IsSquare, has_edge, with_edge}
use Rattle.cb_dag.specs.Marks.{marked}
use Rattle.cb_dag.proofs.Among.{marked-set_cases, marked-set_kept, marked-set_same, marked_within}

pub empty_grid : (n : ℕ) (rows : List (List Bool)) → rows ≡ replicate n (replicate n false) → (length rows ≡ n) × IsSquare rows
empty_grid n rows is = (count, record { square = λ k d within. ap (λ all. length (get_or all k d)) is ∙ ap length (get_or-replicate n k (replicate n false) d (omega (arith, within, count))) ∙ length-replicate n false ∙ sym count })
  where
    count : length rows ≡ n
    count = ap length is ∙ length-replicate n (replicate n false)

pub no_edge : (n a b : ℕ) → has_edge (replicate n (replicate n false)) a b ≡ false
no_edge n a b = elim (cases_lt a n) [
  | inl l ↦ ap (λ row. marked row b) (get_or-replicate n a (replicate n false) [] l)
      ∙ elim (cases_lt b n) [ inl m ↦ get_or-replicate n b false false m | inr p ↦ get_or_past (replicate n false) b false (omega (arith, p, length-replicate n false)) ]
  | inr p ↦ ap (λ row. marked row b) (get_or_past (replicate n (replicate n false)) a [] (omega (arith, p, length-replicate n (replicate n false))))
]

-- edges lead between nodes
pub edge_from : (rows : List (List Bool)) (a b : ℕ) → HasEdge rows a b → a < length rows
edge_from rows a b edge = elim (cases_lt a (length rows)) [
  | inl l ↦ l
  | inr past ↦ absurd (both_ways (has_edge rows a b) (ap (λ row. marked row b) (get_or_past rows a [] past)) edge)
]

pub edge_to : (rows : List (List Bool)) → IsSquare rows → (a b : ℕ) → HasEdge rows a b → b < length rows
edge_to rows square a b edge =
    let inside : b < length (get_or rows a []) = marked_within (get_or rows a []) b edge in
    omega (arith, inside, square.square a [] (edge_from rows a b edge))

-- one edge more
pub with_edge_same : (rows : List (List Bool)) (a b : ℕ) → IsSquare rows → a < length rows → b < length rows → HasEdge (with_edge rows a b) a b
with_edge_same rows a b square from to =
    ap (λ row. marked row b) (get_or-set_same rows a (set (get_or rows a []) b true) [] from)
    ∙ marked-set_same (get_or rows a []) b (omega (arith, to, square.square a [] from))

pub with_edge_kept : (rows : List (List Bool)) (a b c d : ℕ) → HasEdge rows c d → HasEdge (with_edge rows a b) c d
with_edge_kept rows a b c d edge = elim (cases_eq c a) [
  | inr apart ↦ ap (λ row. marked row d) (get_or-set_other rows a c (set (get_or rows a []) b true) [] apart) ∙ edge
  | inl same ↦
      let there : HasEdge rows a d = subst (λ n. HasEdge rows n d) same edge in
      ap (λ n. has_edge (with_edge rows a b) n d) same
      ∙ ap (λ row. marked row d) (get_or-set_same rows a (set (get_or rows a []) b true) [] (edge_from rows a d there))
      ∙ marked-set_kept (get_or rows a []) b d there
]

pub with_edge_cases : (rows : List (List Bool)) (a b c d : ℕ) → a < length rows → HasEdge (with_edge rows a b) c d → ((c ≡ a) × (d ≡ b)) ⊎ HasEdge rows c d
with_edge_cases rows a b c d from edge = elim (cases_eq c a) [
  | inr apart ↦ inr (sym (ap (λ row. marked row d) (get_or-set_other rows a c (set (get_or rows a []) b true) [] apart)) ∙ edge)
  | inl same ↦ elim (marked-set_cases (get_or rows a []) b d (at_row same)) [
    | inl here ↦ inl (same, here)
    | inr before ↦ inr (subst (λ n. HasEdge rows n d) (sym same) before)
  ]
]
  where
    at_row : c ≡ a → marked (set (get_or rows a []) b true) d ≡ true
    at_row same =
        sym (ap (λ row. marked row d) (get_or-set_same rows a (set (get_or rows a []) b true) [] from)) ∙ subst (λ n. HasEdge (with_edge rows a b) n d) same edge
