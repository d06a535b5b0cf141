-- A store of four cells, for a test.
use Rattle.std.specs.Prelude.{◌≡◌, ℕ, ◌+◌, ◌-◌, ◌/◌, ◌≤◌, ◌^◌, min, nat_le, pos, Bool, true, false, ◌&&◌, List, [], ◌∷◌, length, Option, Some, None, if◌then◌else◌}
use Rattle.std.specs.Int.{int_wrap, w64}
use Rattle.std.specs.List.{sum_by}
use Rattle.std.specs.declared.result.Result.{Result}
use Rattle.std.specs.declared.result.Result.TheVariants.{Err, Ok}
use Rattle.std.proofs.Common.{arith, refl}
use Rattle.std.proofs.lemmas.Bool.{leb-true}
use Rattle.cb_plain.specs.declared.shape.Shape.{Shape}
use Rattle.cb_plain.specs.declared.shape.Shape.TheVariants.{Fields}
use Rattle.cb_plain.specs.declared.want.Want.{Want}
use Rattle.cb_plain.specs.State.{Content, Number, Object, Reference}
use Rattle.cb_heap.specs.Grants.{words_granted}
use Rattle.cb_heap.specs.Reading.{View}
use Rattle.cb_heap.specs.Rules.{AreBounded, Meaning, Rules}
use Rattle.cb_heap.specs.Taking.{IsTaken}
use Rattle.cb_heap.specs.declared.no_room.NoRoom.{NoRoom}
use Rattle.cb_heap.specs.declared.no_room.NoRoom.TheVariants.{Full, OutOfMemory}
use Rattle.cb_store_tests.specs.declared.cell.Cell.{Cell}

pub record Held : Type 0 where
  pub objects : List (Option Object)
  pub granted : List Want

-- a cell has one word: the serial of another, or a number
abbrev pub word_of : Bool → ℕ → Content
word_of true word = Reference word
word_of false word = Number (int_wrap w64 (pos word))

abbrev kind_of : Bool → ℕ
kind_of true = 1
kind_of false = 0

abbrev pub object_of : Cell → Object
object_of cell = record { site = cell.site; kind = kind_of cell.linked; contents = word_of cell.linked cell.word ∷ [] }

abbrev pub entry_of : Cell → Option Object
entry_of cell = if cell.kept then Some (object_of cell) else None

-- a cell with another word
abbrev pub with_word : Cell → ℕ → Cell
with_word cell word = record { kept = cell.kept; site = cell.site; linked = cell.linked; word = word }

-- a cell that is emptied unless it stays
abbrev pub lowered : Bool → Cell → Cell
lowered stays cell = record { kept = cell.kept && stays; site = cell.site; linked = cell.linked; word = cell.word }

-- objects of the first kind hold a number, and those of the second a reference
abbrev pub cell_shapes : List Shape
cell_shapes = Fields (false ∷ []) ∷ Fields (true ∷ []) ∷ []

-- how many cells are asked for, of four words each, as far as they are counted
abbrev pub cells_asked : List Want → ℕ
cells_asked wants = min (sum_by (λ want. want.words / 4) wants) (2 ^ 64 - 1)

-- whether there is room beside so many cells, none of which is used again: for one site, and in as many cells as are left of four
abbrev pub fits : ℕ → List Want → Bool
fits used [] = false
fits used (want ∷ []) = nat_le (used + want.words / 4) 4
fits used (one ∷ other ∷ wants) = false

-- no object is spared for its site
abbrev pub every_site : ℕ → Bool
every_site site = true

-- room is made exactly where there is some, and just the objects stay that are reached
pub record MakesRoom (facts : Unit {0}) (view : View) (wants : List Want) (result : Result (Unit {0}) NoRoom) (after : Meaning (Unit {0})) : Type 0 where
  pub answer : result ≡ (if fits (length view.objects) wants then Ok tt else Err (Full (length view.objects) (cells_asked wants) 4))
  pub taken : IsTaken every_site view after.residents

-- collecting never fails, and leaves just those
pub record CollectsAll (facts : Unit {0}) (view : View) (result : Result (Unit {0}) NoRoom) (after : Meaning (Unit {0})) : Type 0 where
  pub fine : result ≡ Ok tt
  pub taken : IsTaken every_site view after.residents

abbrev pub cell_rules : Rules (Unit {0})
cell_rules = record { fixed = true; makes_room = MakesRoom; collects_all = CollectsAll; placed = λ facts site size. facts }

-- what fits are fewer than twenty words
few_words : (used : ℕ) (wants : List Want) (full : NoRoom) (result : Result (Unit {0}) NoRoom) → result ≡ Ok tt → result ≡ (if fits used wants then Ok tt else Err full) → words_granted wants ≤ 2 ^ 28
few_words used [] full result fine is = omega arith
few_words used (want ∷ []) full result fine is = at_most (nat_le (used + want.words / 4) 4) refl is where
  at_most : (within : Bool) → nat_le (used + want.words / 4) 4 ≡ within → result ≡ (if within then Ok tt else Err full) → words_granted (want ∷ []) ≤ 2 ^ 28
  at_most true less is = omega (arith, leb-true (used + want.words / 4) 4 less)
  at_most false less is = absurd (cc (fine, is))
few_words used (one ∷ other ∷ wants) full result fine is = absurd (cc (fine, is))

-- and memory is never wanted
never_wanted : (fit : Bool) (used asked limit : ℕ) (result : Result (Unit {0}) NoRoom) → result ≡ Err OutOfMemory → result ≡ (if fit then Ok tt else Err (Full used asked limit)) → true ≡ false
never_wanted true used asked limit result wanted is = absurd (cc (wanted, is))
never_wanted false used asked limit result wanted is = absurd (cc (wanted, is))

pub cell_rules_are_bounded : AreBounded cell_rules
cell_rules_are_bounded = record {
  words = λ facts view wants after fixed ruled. few_words (length view.objects) wants (Full (length view.objects) (cells_asked wants) 4) (Ok tt) refl ruled.answer;
  memory = λ facts view wants after ruled. never_wanted (fits (length view.objects) wants) (length view.objects) (cells_asked wants) 4 (Err OutOfMemory) refl ruled.answer;
}
