-- Where items of a list stand.
use Rattle.std.specs.Prelude.{◌≡◌, ◌==◌, ℕ, ◌+◌, ◌<◌, Bool, List, [], ◌∷◌, length, slice_index_or, if◌then◌else◌}
use Rattle.cb_dag.specs.declared.ends.End.{End}
use Rattle.cb_dag.specs.declared.ends.End.TheVariants.{Finish, Start}

-- the places of the items that pass a test, counted from a number on
abbrev pub places : {X : Type 0} → (X → Bool) → ℕ → List X → List ℕ
places test from [] = []
places test from (x ∷ xs) = if test x then from ∷ places test (from + 1) xs else places test (from + 1) xs

-- where an edge begins or ends
abbrev pub end_of : End → ℕ × ℕ → ℕ
end_of Start edge = edge.0
end_of Finish edge = edge.1

-- the places of the edges that begin, or end, at a part
abbrev pub edges_at : End → ℕ → List (ℕ × ℕ) → List ℕ
edges_at end part edges = places (λ edge. end_of end edge == part) 0 edges

-- the edges at each part
pub record AreEdgesAt (end : End) (parts : ℕ) (edges : List (ℕ × ℕ)) (lists : List (List ℕ)) : Type 0 where
  pub each : length lists ≡ parts
  pub at : (part : ℕ) → part < parts → slice_index_or lists part [] ≡ edges_at end part edges
