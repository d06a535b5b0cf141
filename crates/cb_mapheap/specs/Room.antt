-- What a store does that never lets an object go.
use Rattle.std.specs.Prelude.{◌≡◌, ◌-◌, ◌↔◌, ◌⊎◌, ℕ, Bool, false, List, IsTrue, nat_le, refl}
use Rattle.std.specs.List.{list_any}
use Rattle.std.specs.declared.result.Result.{Result}
use Rattle.std.specs.declared.result.Result.TheVariants.{Ok, Err}
use Rattle.cb_plain.specs.declared.want.Want.{Want}
use Rattle.cb_plain.specs.Requests.{most_words}
use Rattle.cb_heap.specs.declared.no_room.NoRoom.{NoRoom}
use Rattle.cb_heap.specs.declared.no_room.NoRoom.TheVariants.{Full, OutOfMemory}
use Rattle.cb_heap.specs.Kept.{residents, words_kept}
use Rattle.cb_heap.specs.Reading.{View}
use Rattle.cb_heap.specs.Rules.{AreBounded, Meaning, Rules}

-- whether an entry has reached so many words, and whether one has reached the limit of what is counted
abbrev pub has_reached : ℕ → Want → Bool
has_reached most want = nat_le most want.words

abbrev pub one_has_reached : ℕ → List Want → Bool
one_has_reached most wants = list_any (has_reached most) wants

-- the words of all objects, the limit as what is asked for, and one less as what there may be
abbrev pub no_room_in : View → NoRoom
no_room_in view = Full (words_kept view.objects) most_words (most_words - 1)

-- there is no room exactly where an entry has reached the limit, every other refusal is want of memory, and all objects stay
pub record MakesRoom (facts : Unit {0}) (view : View) (wants : List Want) (result : Result (Unit {0}) NoRoom) (after : Meaning (Unit {0})) : Type 0 where
  pub full : IsTrue (one_has_reached most_words wants) ↔ (result ≡ Err (no_room_in view))
  pub refused : (reason : NoRoom) → result ≡ Err reason → (reason ≡ no_room_in view) ⊎ (reason ≡ OutOfMemory)
  pub residents : after.residents ≡ residents view.objects

-- collecting lets nothing go and never fails
pub record CollectsAll (facts : Unit {0}) (view : View) (result : Result (Unit {0}) NoRoom) (after : Meaning (Unit {0})) : Type 0 where
  pub fine : result ≡ Ok tt
  pub residents : after.residents ≡ residents view.objects

abbrev pub rules_of : Rules (Unit {0})
rules_of = record { fixed = false; makes_room = MakesRoom; collects_all = CollectsAll; placed = λ facts site size. facts }

-- it isn't fixed
pub rules_are_bounded : AreBounded rules_of
rules_are_bounded = record { words = λ facts view wants after fixed. absurd (cc fixed); memory = λ facts view wants after ruled. refl }
