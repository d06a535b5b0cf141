-- Texts that natives make, as pieces: what units there are of each (Java SE 8 API, java.lang.String and StringBuilder).
use Rattle.std.specs.Prelude.{◌≡◌, ◌≤◌, ℕ, ◌+◌, List, ◌++◌, drop, length, map, Option, replicate, take}
use Rattle.cb_heap.specs.Reading.{serial_of}
use Rattle.cb_link.specs.Program.{Linked}
use Rattle.cb_machine.specs.Texts.{class_name, replaced}
use Rattle.cb_plain.specs.State.{Object}
use Rattle.cb_natives.specs.Given.{HoldsUnits, units_in}
use Rattle.cb_natives.specs.declared.pieces.Piece.{Piece}
use Rattle.cb_natives.specs.declared.pieces.Piece.TheVariants as pieces
use Rattle.cb_natives.specs.declared.pieces.Text.{Text}

abbrev pub piece_units : Linked → List (Option Object) → (ℕ → ℕ) → Piece → List ℕ
piece_units program objects index (pieces.Range array from count) = take count (drop from (units_in objects (serial_of index array)))
piece_units program objects index (pieces.Replaced array old new) = map (replaced old new) (units_in objects (serial_of index array))
piece_units program objects index (pieces.Short units count) = take count units
piece_units program objects index (pieces.Name kind) = class_name program kind
piece_units program objects index (pieces.Zeros count) = replicate count 0

abbrev pub text_units : Linked → List (Option Object) → (ℕ → ℕ) → Text → List ℕ
text_units program objects index text =
    piece_units program objects index text.first ++ piece_units program objects index text.second ++ piece_units program objects index text.third

-- the arrays that it names hold units, and its ranges are theirs
pub record IsRange (objects : List (Option Object)) (array from count : ℕ) : Type 0 where
  pub holds : HoldsUnits objects array
  pub within : from + count ≤ length (units_in objects array)

abbrev pub IsPiece : Linked → List (Option Object) → (ℕ → ℕ) → Piece → Type 0
IsPiece program objects index (pieces.Range array from count) = IsRange objects (serial_of index array) from count
IsPiece program objects index (pieces.Replaced array old new) = HoldsUnits objects (serial_of index array)
IsPiece program objects index (pieces.Short units count) = count ≤ length units
IsPiece program objects index (pieces.Name kind) = Unit {0}
IsPiece program objects index (pieces.Zeros count) = Unit {0}

pub record IsText (program : Linked) (objects : List (Option Object)) (index : ℕ → ℕ) (text : Text) : Type 0 where
  pub first : IsPiece program objects index text.first
  pub second : IsPiece program objects index text.second
  pub third : IsPiece program objects index text.third

-- units may be written into an array from an index on, also where they are its own, if they go towards its end
abbrev pub MayWrite : (ℕ → ℕ) → (array from : ℕ) → Piece → Type 0
MayWrite index array from (pieces.Range own start count) = serial_of index own ≡ array → start ≤ from
MayWrite index array from (pieces.Replaced own old new) = serial_of index own ≡ array → ⊥
MayWrite index array from other = Unit {0}

-- a piece has these units, whatever objects there are, and may be written into any array
pub record Spells (text : List ℕ) (piece : Piece) : Type 0 where
  pub units : (program : Linked) (objects : List (Option Object)) (index : ℕ → ℕ) → piece_units program objects index piece ≡ text
  pub is : (program : Linked) (objects : List (Option Object)) (index : ℕ → ℕ) → IsPiece program objects index piece
  pub may : (index : ℕ → ℕ) (array from : ℕ) → MayWrite index array from piece
