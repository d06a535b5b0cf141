-- Where objects begin in the parts of a heap, and their places.
use Rattle.std.specs.Prelude.{◌≡◌, ◌+◌, ◌*◌, ◌^◌, ◌<◌, ◌&&◌, ℕ, Bool, List, Option, Some, None, cond, length, take, zero, suc}
use Rattle.cb_blocks.specs.Parted.{Parted, index_of}
use Rattle.cb_blocks.specs.Rows.{row}
use Rattle.cb_partheap.specs.Words.{is_whole_to, missing, serial_at}

-- a place in the words of a part
pub record Spot : Type 0 where
  pub part : ℕ
  pub start : ℕ

-- the words of its part
abbrev pub words_by : Parted → Spot → List ℕ
words_by parts spot = row parts.words spot.part

-- an object begins there
pub record IsSpot (parts : Parted) (spot : Spot) : Type 0 where
  pub part : spot.part < length parts.words
  pub inside : spot.start < length (words_by parts spot)
  pub whole : missing 0 (take spot.start (words_by parts spot)) ≡ 0

-- its place: the part, and where in the region its first word stands. It is never 0
abbrev pub place_of : Parted → Spot → ℕ
place_of parts spot = spot.part * 2 ^ 29 + index_of parts spot.part spot.start + 1

abbrev pub serial_by : Parted → Spot → ℕ
serial_by parts spot = serial_at (words_by parts spot) spot.start

-- the first that is found below a number
abbrev unless_found : {X : Type 0} → Option X → Option X → Option X
unless_found None other = other
unless_found (Some x) other = Some x

abbrev pub first_below : {X : Type 0} → ℕ → (ℕ → Option X) → Option X
first_below zero find = None
first_below (suc count) find = unless_found (first_below count find) (find count)

-- the first object that passes a test
abbrev pub if_passes : Parted → (Spot → Bool) → Spot → Option Spot
if_passes parts test spot = cond (is_whole_to (words_by parts spot) spot.start && test spot) (Some spot) None

abbrev pub spot_in : Parted → (Spot → Bool) → ℕ → Option Spot
spot_in parts test part = first_below (length (row parts.words part)) (λ start. if_passes parts test (record { part = part; start = start }))

unfoldable pub spot_where : Parted → (Spot → Bool) → Option Spot
spot_where parts test = first_below (length parts.words) (spot_in parts test)
