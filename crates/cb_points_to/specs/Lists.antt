-- Lists by number.
use Rattle.std.specs.Prelude.{ℕ, List, [], ◌∷◌, ◌++◌, slice_index_or, slice_set}
use Rattle.std.specs.List.{Contains}

-- with an item more at the end of one
abbrev pub pushed : {T : Type 0} → List (List T) → ℕ → T → List (List T)
pushed rows at item = slice_set rows at (slice_index_or rows at [] ++ item ∷ [])

-- an item is in the list of a number
abbrev pub InRow : {T : Type 0} → List (List T) → ℕ → T → Type 0
InRow rows at item = Contains (slice_index_or rows at []) item
