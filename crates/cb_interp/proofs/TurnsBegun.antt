-- A turn in which a class begins to be initialised.
use Rattle.std.proofs.Common.{◌≡◌, ◌∙◌, ap, refl, sym, ℕ, Bool, true, false, List, Option, Some}
use Rattle.std.specs.Prelude.{OnErr, OnOk, is_ok, if◌then◌else◌}
use Rattle.std.specs.declared.result.Result.{Result}
use Rattle.std.specs.declared.result.Result.TheVariants.{Err, Ok}
use Rattle.cb_frames.specs.Limited.{Limited, with_roots as with_held}
use Rattle.cb_heap.proofs.Laws.{reads_room}
use Rattle.cb_heap.specs.Reading.{seen}
use Rattle.cb_heap.specs.Rules.{Rules}
use Rattle.cb_link.specs.Program.{Linked}
use Rattle.cb_machine.specs.Initialising.{begun_upon}
use Rattle.cb_machine.specs.Plans.{Plan, leaving}
use Rattle.cb_machine.specs.Sites.{stack_overflow}
use Rattle.cb_machine.specs.Steps.{plan}
use Rattle.cb_machine.specs.Throwing.{throws}
use Rattle.cb_plain.specs.Depth.{has_room}
use Rattle.cb_plain.specs.State.{Object, State}
use Rattle.cb_plain.specs.Updates.{with_roots}
use Rattle.cb_unwind.specs.Begun.{NumbersOnly, begun}
use Rattle.cb_unwind.proofs.Laws.{begun_on, begun_read}
use Rattle.cb_act.specs.Turning.{Outside, TurnMade, machine_of, moment_of, state_of}
use Rattle.cb_interp.proofs.TurnsMade.{quiet_turn}

module _ (program : Linked) (index : ℕ → ℕ) (objects : List (Option Object)) (before : Limited) (outside : Outside) (class : ℕ) where
  abbrev state : State
  state = state_of (seen index objects before.roots) outside

  abbrev Begins : Type 0
  Begins = plan (machine_of program before.limit) state ≡ Some (begun_upon (machine_of program before.limit) state state.roots.frames class)

  abbrev chosen : Bool → Plan
  chosen room = if room then leaving (with_roots state (begun program class state.roots)) else throws (machine_of program before.limit) state stack_overflow

  -- the step by whether there is room
  begins_by : (room : Bool) → room ≡ has_room before.limit before.roots.frames 0 → NumbersOnly program class → Begins
      → plan (machine_of program before.limit) state ≡ Some (chosen room)
  begins_by room is numbers begins =
      begins ∙ ap Some (begun_on (machine_of program before.limit) state state.roots.frames class numbers)
      ∙ ap (λ room. Some (chosen room)) (reads_room index before.roots before.limit 0 ∙ sym is)

  pub begun_turn : {Facts : Type 0} {E : Type 0} (rules : Rules Facts) (facts : Facts) (result : Result (Unit {0}) E) (after : Limited) → NumbersOnly program class → Begins
      → is_ok result ≡ has_room before.limit before.roots.frames 0 → OnOk result (after ≡ with_held before (begun program class before.roots))
      → OnOk result (TurnMade rules (machine_of program before.limit) (moment_of (seen index objects before.roots) outside facts)
      (moment_of (seen index objects after.roots) outside facts))
  begun_turn rules facts (Err deep) after numbers begins room left = tt
  begun_turn rules facts (Ok done) after numbers begins room left =
      quiet_turn rules (machine_of program before.limit) (moment_of (seen index objects before.roots) outside facts) (moment_of (seen index objects after.roots) outside facts)
      (leaving (with_roots state (begun program class state.roots))) (begins_by true room numbers begins) refl
      (ap (λ (after : Limited). state_of (seen index objects after.roots) outside) left
      ∙ ap (with_roots state) (sym (begun_read program index before.roots class))) refl

  pub deep_turn : {E : Type 0} (result : Result (Unit {0}) E) → NumbersOnly program class → Begins → is_ok result ≡ has_room before.limit before.roots.frames 0
      → OnErr result (plan (machine_of program before.limit) state ≡ Some (throws (machine_of program before.limit) state stack_overflow))
  deep_turn (Ok done) numbers begins room = tt
  deep_turn (Err deep) numbers begins room = begins_by false room numbers begins
