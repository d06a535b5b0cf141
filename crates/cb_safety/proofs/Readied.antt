-- What comes before an instruction uses a class.
use Rattle.std.proofs.Common.{◌≡◌, ap, arith, refl, ℕ, ◌<◌, length, get_or, Option, Some, option_and_then}
use Rattle.std.proofs.lemmas.Option.{slice_get-get_or}
use Rattle.cb_machine.specs.Initialising.{begun_upon, once_ready}
use Rattle.cb_machine.specs.Machine.{Machine}
use Rattle.cb_machine.specs.Plans.{Plan}
use Rattle.cb_machine.specs.Sites.{no_class_definition}
use Rattle.cb_machine.specs.Throwing.{throws}
use Rattle.cb_plain.specs.declared.class_state.ClassState.{ClassState}
use Rattle.cb_plain.specs.declared.class_state.ClassState.TheVariants.{Busy, Done, Failed, Untouched}
use Rattle.cb_plain.specs.State.{State}
use Rattle.cb_safety.specs.Ready.{BeginsTyped}
use Rattle.cb_safety.specs.States.{IsTypedState}
use Rattle.cb_safety.specs.Throwing.{AreThrown}
use Rattle.cb_safety.proofs.Going.{Planned, planned_by}
use Rattle.cb_safety.proofs.Throwing.{throws_typed}

abbrev by_state : Machine → State → ℕ → Option Plan → ClassState → Option Plan
by_state machine state class ready Untouched = Some (begun_upon machine state state.roots.frames class)
by_state machine state class ready Failed = Some (throws machine state no_class_definition)
by_state machine state class ready Busy = ready
by_state machine state class ready Done = ready

module _ (machine : Machine) (state : State) (typed : IsTypedState machine.program state) (thrown : AreThrown machine.program) (begins : BeginsTyped machine state)
    (class : ℕ) (low : class < length machine.program.classes) (ready : Option Plan) (planned : Planned machine.program ready) where
  state_planned : (now : ClassState) → Planned machine.program (by_state machine state class ready now)
  state_planned Untouched = record { plan = begun_upon machine state state.roots.frames class; is = refl; typed = begins class low }
  state_planned Failed =
      record { plan = throws machine state no_class_definition; is = refl; typed = throws_typed machine state no_class_definition typed (thrown no_class_definition (8, omega arith, refl)) }
  state_planned Busy = planned
  state_planned Done = planned

  pub ready_planned : Planned machine.program (once_ready machine state class ready)
  ready_planned =
      let many : length state.roots.classes ≡ length machine.program.classes = typed.roots.classes in
      planned_by machine.program (once_ready machine state class ready) (by_state machine state class ready (get_or state.roots.classes class Untouched))
      (ap (option_and_then (by_state machine state class ready)) (slice_get-get_or state.roots.classes class Untouched (omega (arith, low, many))))
      (state_planned (get_or state.roots.classes class Untouched))
