-- Grids of edges.
use Rattle.std.proofs.Common.{◌≡◌, ◌∙◌, ℕ, ◌+◌, ◌<◌, ◌⊎◌, Bool, true, false, List, [], ◌∷◌, ◌++◌, length, get_or, set, replicate, take, sym, ap, arith, subst, inl, inr, get_or-set_same, get_or-set_other}
use Rattle.std.specs.List.{Contains}
use Rattle.std.proofs.lemmas.Bool.{both_ways, cases_eq, cases_lt}
use Rattle.std.proofs.lemmas.List.{get_or-replicate, get_or_default, get_or_past, length-replicate, length-set, take_more}
use Rattle.std.proofs.lemmas.List.Elements.{Contains-append_left, Contains-push, Contains-push_cases}
use Rattle.cb_dag.specs.Graphs.{HasEdge, IsSquare, has_edge, with_edge}
use Rattle.cb_dag.specs.Parts.{AreWithin}
use Rattle.cb_partheap.specs.Made.{IsGridOf}

-- a row with a mark more
mark_there : (row : List Bool) (b d : ℕ) → get_or row d false ≡ true → get_or (set row b true) d false ≡ true
mark_there row b d marked =
    elim (cases_eq d b) [
      | inl same ↦
          let inside : b < length row = elim (cases_lt b (length row)) [ inl l ↦ l | inr past ↦ absurd (both_ways (get_or row d false) (ap (λ k. get_or row k false) same ∙ get_or_past row b false past) marked) ] in
          ap (λ k. get_or (set row b true) k false) same ∙ get_or-set_same row b true false inside
      | inr differs ↦ get_or-set_other row b d true false differs ∙ marked
    ]

mark_cases : (row : List Bool) (b d : ℕ) → get_or (set row b true) d false ≡ true → (d ≡ b) ⊎ (get_or row d false ≡ true)
mark_cases row b d marked = elim (cases_eq d b) [ inl same ↦ inl same | inr differs ↦ inr (sym (get_or-set_other row b d true false differs) ∙ marked) ]

-- a grid without edges, and with one more
no_edge : (n a b : ℕ) → has_edge (replicate n (replicate n false)) a b ≡ false
no_edge n a b =
    elim (cases_lt a n) [
      | inl l ↦ ap (λ row. get_or row b false) (get_or-replicate n a (replicate n false) [] l)
          ∙ elim (cases_lt b n) [ inl m ↦ get_or-replicate n b false false m | inr p ↦ get_or_past (replicate n false) b false (omega (arith, p, length-replicate n false)) ]
      | inr p ↦ ap (λ row. get_or row b false) (get_or_past (replicate n (replicate n false)) a [] (omega (arith, p, length-replicate n (replicate n false))))
    ]

edge_there : (rows : List (List Bool)) (a b c d : ℕ) → a < length rows → HasEdge rows c d → HasEdge (with_edge rows a b) c d
edge_there rows a b c d from edge =
    elim (cases_eq c a) [
      | inl same ↦ ap (λ k. has_edge (with_edge rows a b) k d) same ∙ ap (λ row. get_or row d false) (get_or-set_same rows a (set (get_or rows a []) b true) [] from)
          ∙ mark_there (get_or rows a []) b d (ap (λ k. has_edge rows k d) (sym same) ∙ edge)
      | inr differs ↦ ap (λ row. get_or row d false) (get_or-set_other rows a c (set (get_or rows a []) b true) [] differs) ∙ edge
    ]

edge_here : (rows : List (List Bool)) (a b : ℕ) → IsSquare rows → a < length rows → b < length rows → HasEdge (with_edge rows a b) a b
edge_here rows a b square from to =
    ap (λ row. get_or row b false) (get_or-set_same rows a (set (get_or rows a []) b true) [] from)
    ∙ get_or-set_same (get_or rows a []) b true false (omega (arith, to, square.square a [] from))

edge_cases : (rows : List (List Bool)) (a b c d : ℕ) → a < length rows → HasEdge (with_edge rows a b) c d → ((a ≡ c) × (b ≡ d)) ⊎ HasEdge rows c d
edge_cases rows a b c d from edge =
    elim (cases_eq c a) [
      | inr differs ↦ inr (sym (ap (λ row. get_or row d false) (get_or-set_other rows a c (set (get_or rows a []) b true) [] differs)) ∙ edge)
      | inl same ↦
          let there : get_or (set (get_or rows a []) b true) d false ≡ true =
          sym (ap (λ row. get_or row d false) (get_or-set_same rows a (set (get_or rows a []) b true) [] from)) ∙ ap (λ k. has_edge (with_edge rows a b) k d) (sym same) ∙ edge in
          elim (mark_cases (get_or rows a []) b d there) [
            | inl here ↦ inl (sym same, sym here)
            | inr before ↦ inr (ap (λ k. has_edge rows k d) same ∙ before)
          ]
    ]

same_pair : (one other : ℕ × ℕ) → one.0 ≡ other.0 → one.1 ≡ other.1 → one ≡ other
same_pair one other first second = ap (λ n. let p : ℕ × ℕ = (n, one.1) in p) first ∙ ap (λ n. let p : ℕ × ℕ = (other.0, n) in p) second

pub grid_none : (parts : ℕ) (rows : List (List Bool)) (edges : List (ℕ × ℕ)) → rows ≡ replicate parts (replicate parts false) → IsGridOf parts (take 0 edges) rows
grid_none parts rows edges is =
    record {
      nodes = ap length is ∙ length-replicate parts (replicate parts false);
      same = λ part other. (
        λ edge. absurd (both_ways (has_edge rows part other) (ap (λ r. has_edge r part other) is ∙ no_edge parts part other) edge),
        λ pair. absurd (omega (arith, pair.1)),
      );
    }

pub grid_more : (parts : ℕ) (rows : List (List Bool)) (edges : List (ℕ × ℕ)) (i : ℕ) (edge : ℕ × ℕ) → i < length edges → get_or edges i edge ≡ edge → IsSquare rows → edge.0 < parts → edge.1 < parts → IsGridOf parts (take i edges) rows →
    IsGridOf parts (take (i + 1) edges) (with_edge rows edge.0 edge.1)
grid_more parts rows edges i edge inside is square from to grid =
    let more : take (i + 1) edges ≡ take i edges ++ edge ∷ [] = take_more edges i edge inside ∙ ap (λ e. take i edges ++ e ∷ []) is in
    let low : edge.0 < length rows = omega (arith, from, grid.nodes) in
    let high : edge.1 < length rows = omega (arith, to, grid.nodes) in
    let good : IsGridOf parts (take i edges ++ edge ∷ []) (with_edge rows edge.0 edge.1) = record {
      nodes = length-set rows edge.0 (set (get_or rows edge.0 []) edge.1 true) ∙ grid.nodes;
      same = λ part other. (
        λ there. elim (edge_cases rows edge.0 edge.1 part other low there) [
          | inl here ↦ subst (λ (pair : ℕ × ℕ). Contains (take i edges ++ edge ∷ []) pair) (same_pair edge (part, other) here.0 here.1) (Contains-push (take i edges) edge)
          | inr before ↦ Contains-append_left (take i edges) (edge ∷ []) (part, other) ((grid.same part other).0 before)
        ],
        λ pair. elim (Contains-push_cases (take i edges) edge (part, other) pair) [
          | inl before ↦ edge_there rows edge.0 edge.1 part other low ((grid.same part other).1 before)
          | inr here ↦ subst (λ (p : ℕ × ℕ). HasEdge (with_edge rows edge.0 edge.1) p.0 p.1) here (edge_here rows edge.0 edge.1 square low high)
        ],
      );
    } in
    subst (λ es. IsGridOf parts es (with_edge rows edge.0 edge.1)) (sym more) good

pub edge_step : (parts : ℕ) (rows new : List (List Bool)) (items edges : List (ℕ × ℕ)) (i : ℕ) → items ≡ edges → new ≡ with_edge rows (get_or items i (0, 0)).0 (get_or items i (0, 0)).1 → i < length items → IsSquare rows → AreWithin parts edges →
    IsGridOf parts (take i edges) rows → IsGridOf parts (take (i + 1) edges) new
edge_step parts rows new items edges i same is inside square within grid =
    let here : i < length edges = subst (λ (es : List (ℕ × ℕ)). i < length es) same inside in
    let edge : ℕ × ℕ = get_or edges i (0, 0) in
    let ends = within i (0, 0) here in
    subst (IsGridOf parts (take (i + 1) edges)) (sym (is ∙ ap (λ (es : List (ℕ × ℕ)). with_edge rows (get_or es i (0, 0)).0 (get_or es i (0, 0)).1) same))
    (grid_more parts rows edges i edge here (get_or_default edges i edge (0, 0) here) square ends.0 ends.1 grid)
