-- Numbers, which stand with their high bytes first, and tables (JVMS §4).
use Rattle.std.specs.Prelude.{◌≡◌, ℕ, ◌^◌, ◌<◌, List, [], ◌∷◌, ◌++◌, length}
use Rattle.std.specs.Int.{w32, to_be_bytes}
use Rattle.std.specs.List.{flat_map}
use denote.Ref.{Bor}
pub use Rattle.cb_text.specs.Fronts.{BeginsWith}
pub use Rattle.cb_text.specs.Pool.{u2}

abbrev pub u4 : ℕ → List ℕ
u4 number = to_be_bytes w32 number

-- a number of one, two and four bytes, and two and three numbers of two
abbrev pub SpellsU1 : List ℕ → ℕ → Type 0
SpellsU1 bytes number = bytes ≡ number ∷ []

abbrev pub SpellsU2 : List ℕ → ℕ → Type 0
SpellsU2 bytes number = (number < 2 ^ 16) × (bytes ≡ u2 number)

abbrev pub SpellsU4 : List ℕ → ℕ → Type 0
SpellsU4 bytes number = (number < 2 ^ 32) × (bytes ≡ u4 number)

abbrev pub SpellsPair : List ℕ → ℕ × ℕ → Type 0
SpellsPair bytes pair = (pair.0 < 2 ^ 16) × (pair.1 < 2 ^ 16) × (bytes ≡ u2 pair.0 ++ u2 pair.1)

abbrev pub SpellsTriple : List ℕ → ℕ × ℕ × ℕ → Type 0
SpellsTriple bytes triple =
    (triple.0 < 2 ^ 16) × (triple.1 < 2 ^ 16) × (triple.2 < 2 ^ 16) × (bytes ≡ u2 triple.0 ++ u2 triple.1 ++ u2 triple.2)

-- the bytes of a block, which stand behind their number, and those of a table
abbrev pub block_bytes : List ℕ → List ℕ
block_bytes block = u4 (length block) ++ block

abbrev pub table_bytes : {Item : Type 0} → (Item → List ℕ) → List Item → List ℕ
table_bytes item_bytes items = u2 (length items) ++ flat_map item_bytes items

-- some bytes behind their number, and what is told of them: all
abbrev pub SpellsBlock : List ℕ → List ℕ → Type 0
SpellsBlock bytes block = (length block < 2 ^ 32) × (bytes ≡ block_bytes block)

abbrev pub TellsBytes : Bor (List ℕ) → List ℕ → Type 0
TellsBytes told bytes = told.now ≡ bytes

-- an item, and behind it one of a kind that the first may tell
pub record ThenOf {Item Next : Type 0} (Spells : List ℕ → Item → Type 0) (Behind : Item → List ℕ → Next → Type 0) (bytes : List ℕ) (pair : Item × Next) : Type 0 where
  pub first : List ℕ
  pub second : List ℕ
  pub spelled : bytes ≡ first ++ second
  pub here : Spells first pair.0
  pub behind : Behind pair.0 second pair.1

-- an item, and behind it another
abbrev pub Then : {Item Next : Type 0} → (List ℕ → Item → Type 0) → (List ℕ → Next → Type 0) → List ℕ → Item × Next → Type 0
Then Spells Behind = ThenOf Spells (λ _. Behind)

-- the bytes are the items, one after the other
abbrev pub SpellsEach : {Item : Type 0} → (List ℕ → Item → Type 0) → List ℕ → List Item → Type 0
SpellsEach Spells bytes [] = bytes ≡ []
SpellsEach Spells bytes (item ∷ items) =
    (first : List ℕ) × (rest : List ℕ) × Spells first item × SpellsEach Spells rest items × (bytes ≡ first ++ rest)

-- the bytes are so many items
pub record SpellsCount {Item : Type 0} (Spells : List ℕ → Item → Type 0) (count : ℕ) (bytes : List ℕ) (items : List Item) : Type 0 where
  pub counted : length items ≡ count
  pub each : SpellsEach Spells bytes items

-- the bytes are a table: the number of its items, and the items
pub record SpellsTable {Item : Type 0} (Spells : List ℕ → Item → Type 0) (bytes : List ℕ) (items : List Item) : Type 0 where
  pub entries : List ℕ
  pub spelled : bytes ≡ u2 (length items) ++ entries
  pub counted : length items < 2 ^ 16
  pub each : SpellsEach Spells entries items
