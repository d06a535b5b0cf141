-- How pieces of texts are read unit by unit, and where they may be written.
use Rattle.std.specs.Prelude.{◌≡◌, ◌<◌, ◌+◌, ◌^◌, ℕ, List, Option, Some, None, get_or, length, slice_get, true}
use Rattle.cb_heap.specs.Kept.{content_at, contents_at, is_number}
use Rattle.cb_heap.specs.Reading.{serial_of}
use Rattle.cb_link.specs.Numbers.{or_none}
use Rattle.cb_link.specs.Program.{Linked}
use Rattle.cb_machine.specs.Performing.{unit_in}
use Rattle.cb_machine.specs.Texts.{dotted, replaced}
use Rattle.cb_plain.specs.State.{Content, Object}
use Rattle.cb_natives.specs.Given.{IsUnit}
use Rattle.cb_natives.specs.declared.pieces.Piece.{Piece}
use Rattle.cb_natives.specs.declared.pieces.Piece.TheVariants as pieces
use Rattle.cb_natives.specs.declared.pieces.Text.{Text}

-- the unit that a word holds
abbrev pub unit_of_word : Option Content → ℕ
unit_of_word None = 0
unit_of_word (Some content) = unit_in content

-- a unit of a piece, and whether it is there to be read
abbrev pub unit_read : Linked → List (Option Object) → (ℕ → ℕ) → Piece → ℕ → ℕ
unit_read program objects index (pieces.Range array from count) place = unit_of_word (content_at objects (serial_of index array) (from + place))
unit_read program objects index (pieces.Replaced array old new) place = replaced old new (unit_of_word (content_at objects (serial_of index array) place))
unit_read program objects index (pieces.Short units count) place = get_or units place 0
unit_read program objects index (pieces.Name kind) place = dotted (get_or (or_none (slice_get program.kinds kind)) place 0)
unit_read program objects index (pieces.Zeros count) place = 0

abbrev pub MayRead : Linked → List (Option Object) → (ℕ → ℕ) → Piece → ℕ → Type 0
MayRead program objects index (pieces.Range array from count) place = (from + place < 2 ^ 32) × IsUnit (content_at objects (serial_of index array) (from + place))
MayRead program objects index (pieces.Replaced array old new) place = IsUnit (content_at objects (serial_of index array) place)
MayRead program objects index (pieces.Short units count) place = place < length units
MayRead program objects index (pieces.Name kind) place = place < length (or_none (slice_get program.kinds kind))
MayRead program objects index (pieces.Zeros count) place = Unit {0}

-- each word of an array holds a number
abbrev pub HoldsNumbers : List (Option Object) → ℕ → Type 0
HoldsNumbers objects array = (word : ℕ) → word < length (contents_at objects array) → is_number (content_at objects array word) ≡ true

-- a piece, or a text, of which no unit stands in an array
abbrev pub IsApart : (ℕ → ℕ) → ℕ → Piece → Type 0
IsApart index array (pieces.Range own start count) = serial_of index own ≡ array → ⊥
IsApart index array (pieces.Replaced own old new) = serial_of index own ≡ array → ⊥
IsApart index array other = Unit {0}

pub record TextApart (index : ℕ → ℕ) (array : ℕ) (text : Text) : Type 0 where
  pub first : IsApart index array text.first
  pub second : IsApart index array text.second
  pub third : IsApart index array text.third
