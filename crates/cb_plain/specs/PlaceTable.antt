-- Items and their places.
use Rattle.std.specs.Prelude.{◌≡◌, ℕ, List, Option, option_and_then, slice_get, ◌==◌}
use Rattle.std.specs.List.{position}

-- the index of the first item that stands at a place
abbrev pub index_at : {Item : Type 0} → List (ℕ × Item) → ℕ → Option ℕ
index_at items place = position (λ item. item.0 == place) items

-- what a table answers for a place
abbrev pub answered : List (Option ℕ) → ℕ → Option ℕ
answered table place = option_and_then (λ index. index) (slice_get table place)

-- it answers the index of the first item there, for each place
abbrev pub IsTableOf : {Item : Type 0} → List (ℕ × Item) → List (Option ℕ) → Type 0
IsTableOf items table = (place : ℕ) → answered table place ≡ index_at items place
