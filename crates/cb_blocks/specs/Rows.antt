-- Rows of numbers, one for each part of a heap, and numbers that lie in pages.
use Rattle.std.specs.Prelude.{◌≡◌, ℕ, ◌+◌, ◌-◌, ◌*◌, ◌/◌, ◌%◌, ◌<◌, ◌≤◌, List, [], ◌∷◌, ◌++◌, get_or, length, map, slice_set, take}
use Rattle.std.specs.List.{range_with_len, sum_by}

-- the row of a part
abbrev pub row : List (List ℕ) → ℕ → List ℕ
row rows part = get_or rows part []

-- the rows with a number more at the end of one, and with one less there
abbrev pub pushed : List (List ℕ) → ℕ → ℕ → List (List ℕ)
pushed rows part number = slice_set rows part (row rows part ++ number ∷ [])

abbrev pub popped : List (List ℕ) → ℕ → List (List ℕ)
popped rows part = slice_set rows part (take (length (row rows part) - 1) (row rows part))

-- how many numbers all rows have
abbrev pub held : List (List ℕ) → ℕ
held rows = sum_by length rows

-- no number stands twice in rows
abbrev pub IsApart : List (List ℕ) → Type 0
IsApart rows =
    (part other i j : ℕ) → i < length (row rows part) → j < length (row rows other) → get_or (row rows part) i 0 ≡ get_or (row rows other) j 0
    → (part ≡ other) × (i ≡ j)

-- so many values, each made of its place
abbrev pub tabulated : {X : Type 0} → ℕ → (ℕ → X) → List X
tabulated count value = map value (range_with_len 0 count)

-- where in a store of pages the item at a place of a row stands, whose pages are these, in order
abbrev pub place_in : ℕ → List ℕ → ℕ → ℕ
place_in size pages i = get_or pages (i / size) 0 * size + i % size

-- a row of so many items that lie in these pages
abbrev pub paged : ℕ → List ℕ → List ℕ → ℕ → List ℕ
paged size store pages count = tabulated count (λ i. get_or store (place_in size pages i) 0)

-- the rows of all parts, each by its pages and how many items it has
abbrev pub all_paged : ℕ → List ℕ → List (List ℕ) → List ℕ → List (List ℕ)
all_paged size store rows counts = tabulated (length counts) (λ part. paged size store (row rows part) (get_or counts part 0))

-- how many pages so many items need
abbrev pub pages_for : ℕ → ℕ → ℕ
pages_for size count = (count + (size - 1)) / size

-- rows of pages, none of which stands twice, that lie in the store and are enough for so many items in each
pub record IsPaged (size : ℕ) (store : List ℕ) (rows : List (List ℕ)) (counts : List ℕ) : Type 0 where
  pub apart : IsApart rows
  pub within : (part i : ℕ) → i < length (row rows part) → get_or (row rows part) i 0 * size + size ≤ length store
  pub enough : (part : ℕ) → part < length counts → get_or counts part 0 ≤ length (row rows part) * size
  pub parts : length rows ≡ length counts

-- rows with so many numbers more at the end of one
pub record IsExtended (rows rows' : List (List ℕ)) (part count : ℕ) : Type 0 where
  pub more : List ℕ
  pub long : length more ≡ count
  pub is : rows' ≡ slice_set rows part (row rows part ++ more)
