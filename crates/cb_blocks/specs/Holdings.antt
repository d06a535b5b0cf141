-- Numbers from a stock, each of which stands in one row or is free.
use Rattle.std.specs.Prelude.{◌≡◌, ℕ, ◌+◌, ◌*◌, ◌<◌, ◌≤◌, ◌^◌, ◌⊎◌, [], ◌∷◌, ◌++◌, get_or, length, List}
use Rattle.cb_blocks.specs.Rows.{IsApart, held, row}

-- the rows of all parts; how many numbers there are, those below which were ever taken, and how many a row may have
pub record Held : Type 0 where
  pub rows : List (List ℕ)
  pub count : ℕ
  pub fresh : ℕ
  pub longest : ℕ

-- what holds of all rows of a stock
pub record IsHeld (all : Held) : Type 0 where
  pub apart : IsApart all.rows
  pub below : (part i : ℕ) → i < length (row all.rows part) → get_or (row all.rows part) i 0 < all.fresh
  pub few : held all.rows ≤ all.fresh
  pub within : all.fresh ≤ all.count
  pub bound : all.count ≤ 2 ^ 20

-- where a number stands: in the row of a part, counted from 0
abbrev pub tag : ℕ → ℕ → ℕ
tag part i = part * 2 ^ 20 + i

-- a number stands at a place of a row
abbrev pub IsNumberAt : List (List ℕ) → ℕ → ℕ → ℕ → Type 0
IsNumberAt rows part i number = (i < length (row rows part)) × (get_or (row rows part) i 0 ≡ number)

-- each number in a row is tagged with where it stands
abbrev pub RowsTagged : List ℕ → ℕ → List (List ℕ) → Type 0
RowsTagged tags fresh rows =
    (part i : ℕ) → i < length (row rows part) → (get_or (row rows part) i 0 < fresh) × (get_or tags (get_or (row rows part) i 0) 0 ≡ tag part i)

-- and each free one with its place among these, as in a row behind all others
abbrev pub FreeTagged : List ℕ → ℕ → ℕ → List ℕ → Type 0
FreeTagged tags fresh parts free = (i : ℕ) → i < length free → (get_or free i 0 < fresh) × (get_or tags (get_or free i 0) 0 ≡ tag parts i)

-- each number that was ever taken stands in a row or is free
abbrev pub Stands : List (List ℕ) → List ℕ → ℕ → Type 0
Stands rows free number = ((part : ℕ) × (i : ℕ) × IsNumberAt rows part i number) ⊎ ((i : ℕ) × (i < length free) × (get_or free i 0 ≡ number))

pub record IsKept (rows : List (List ℕ)) (free tags : List ℕ) (count fresh parts most room : ℕ) : Type 0 where
  pub rows_tagged : RowsTagged tags fresh rows
  pub free_tagged : FreeTagged tags fresh parts free
  pub stands : (number : ℕ) → number < fresh → Stands rows free number
  pub sum : held rows + length free ≡ fresh
  pub within : fresh ≤ count
  pub bound : count ≤ 2 ^ 20
  pub whole : length tags ≡ count
  pub parts_are : length rows ≡ parts
  pub few_parts : parts ≤ 2 ^ 12
  pub space : count ≤ most
  pub stack : count ≤ room

-- the number that is taken next: the last free one, or else the first that was never taken
abbrev pub IsNext : List ℕ → ℕ → List ℕ → ℕ → ℕ → Type 0
IsNext free fresh free' fresh' number =
    ((free ≡ free' ++ number ∷ []) × (fresh' ≡ fresh)) ⊎ ((free ≡ []) × (free' ≡ []) × (number ≡ fresh) × (fresh' ≡ fresh + 1))
