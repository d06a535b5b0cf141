-- What a store does that never lets an object go, in so much room as there is.
use Rattle.std.specs.Prelude.{◌≡◌, ◌≤◌, ◌^◌, true, List, refl}
use Rattle.std.specs.declared.result.Result.{Result}
use Rattle.std.specs.declared.result.Result.TheVariants.{Err, Ok}
use Rattle.cb_plain.specs.declared.want.Want.{Want}
use Rattle.cb_heap.specs.Grants.{words_granted}
use Rattle.cb_heap.specs.Kept.{residents}
use Rattle.cb_heap.specs.Reading.{View}
use Rattle.cb_heap.specs.Rules.{AreBounded, Meaning, Rules}
use Rattle.cb_heap.specs.declared.no_room.NoRoom.{NoRoom}
use Rattle.cb_heap.specs.declared.no_room.NoRoom.TheVariants.{OutOfMemory}

pub record MakesRoom (facts : Unit {0}) (view : View) (wants : List Want) (result : Result (Unit {0}) NoRoom) (after : Meaning (Unit {0})) : Type 0 where
  pub few : result ≡ Ok tt → words_granted wants ≤ 2 ^ 28
  pub had : result ≡ Err OutOfMemory → ⊥
  pub residents : after.residents ≡ residents view.objects

abbrev pub resting : Rules (Unit {0})
resting =
    record { fixed = true; makes_room = MakesRoom; collects_all = λ facts view result after. Unit {0}; placed = λ facts site size. facts }

pub resting_bounded : AreBounded resting
resting_bounded =
    record { words = λ facts view wants after fixed ruled. ruled.few refl; memory = λ facts view wants after ruled. absurd (ruled.had refl) }
