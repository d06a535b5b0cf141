-- What a store does beyond what every store does.
use Rattle.std.specs.Prelude.{◌≡◌, ◌≤◌, ◌^◌, ℕ, Bool, true, false, List}
use Rattle.std.specs.declared.result.Result.{Result}
use Rattle.std.specs.declared.result.Result.TheVariants.{Err, Ok}
use Rattle.cb_plain.specs.declared.want.Want.{Want}
use Rattle.cb_heap.specs.Grants.{words_granted}
use Rattle.cb_heap.specs.Reading.{View}
use Rattle.cb_heap.specs.declared.no_room.NoRoom.{NoRoom}
use Rattle.cb_heap.specs.declared.no_room.NoRoom.TheVariants.{OutOfMemory}

-- what a store means: what it knows besides the objects, and which of them it keeps
pub record Meaning (Facts : Type 0) : Type 0 where
  pub facts : Facts
  pub residents : List Bool

-- a store's rules: whether all room was taken when it was made; from what it knows, what is seen and what is asked for to what it answers and
-- then means; and what it knows when an object of so many words of contents is placed at a site
pub record Rules (Facts : Type 0) : Type 1 where
  pub fixed : Bool
  pub makes_room : Facts → View → List Want → Result (Unit {0}) NoRoom → Meaning Facts → Type 0
  pub collects_all : Facts → View → Result (Unit {0}) NoRoom → Meaning Facts → Type 0
  pub placed : Facts → (site size : ℕ) → Facts

-- by its rules a store of fixed size grants few words at once, and memory is wanted by other stores alone
pub record AreBounded {Facts : Type 0} (rules : Rules Facts) : Type 0 where
  pub words : (facts : Facts) → (view : View) → (wants : List Want) → (after : Meaning Facts) → rules.fixed ≡ true →
      rules.makes_room facts view wants (Ok tt) after → words_granted wants ≤ 2 ^ 28
  pub memory : (facts : Facts) → (view : View) → (wants : List Want) → (after : Meaning Facts) →
      rules.makes_room facts view wants (Err OutOfMemory) after → rules.fixed ≡ false
