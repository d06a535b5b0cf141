-- A pending exception looks for its handler, and main is entered.
use Rattle.std.proofs.Common.{◌≡◌, ap, refl, ℕ, List, [], ◌∷◌, Option, Some, None}
use Rattle.std.specs.Prelude.{option_map, if◌then◌else◌}
use Rattle.std.specs.List.{find}
use Rattle.cb_classfile.specs.declared.handler.Handler.{Handler}
use Rattle.cb_link.specs.Named.{handlers_at}
use Rattle.cb_link.specs.Subtypes.{instance}
use Rattle.cb_machine.specs.Initialising.{once_ready}
use Rattle.cb_machine.specs.Entering.{entered_from}
use Rattle.cb_machine.specs.Library.{error}
use Rattle.cb_machine.specs.Machine.{Machine, body_of, class_declaring}
use Rattle.cb_machine.specs.Plans.{Plan, leaving}
use Rattle.cb_machine.specs.Sites.{exception_in_initializer}
use Rattle.cb_machine.specs.Standing.{at_place}
use Rattle.cb_machine.specs.Throwing.{throwing_with}
use Rattle.cb_machine.specs.Unwinding.{takes, unwinding}
use Rattle.cb_plain.specs.declared.class_state.ClassState.TheVariants.{Failed}
use Rattle.cb_plain.specs.declared.value.Value.TheVariants.{Ref}
use Rattle.cb_plain.specs.State.{Frame, Initialising, MethodFrame, OfMethod, State}
use Rattle.cb_plain.specs.Updates.{object_at, with_argument, with_class, with_frames, with_pending}
use Rattle.cb_beside.specs.Beside.{beside, plan_beside}
use Rattle.cb_beside.proofs.Going.{Same, either_same, map_same, then_same}
use Rattle.cb_beside.proofs.Initial.{entered_same, ready_same}

-- what it goes through
abbrev caught_by : State → MethodFrame → List Frame → ℕ → Option Handler → Plan
caught_by state frame below serial None = leaving (with_frames state below)
caught_by state frame below serial (Some handler) =
    leaving (with_pending (with_frames state (OfMethod (at_place frame handler.handler frame.locals (Ref serial ∷ [])) ∷ below)) 0)

abbrev through_class : Machine → State → List Frame → ℕ → ℕ → ℕ → Plan
through_class machine state below class serial kind =
    let failed = with_class (with_frames state below) class Failed in
    if instance machine.program kind error then leaving failed else throwing_with machine exception_in_initializer 0 serial (leaving failed)

abbrev through : Machine → State → ℕ → ℕ → List Frame → Option Plan
through machine state serial kind [] = None
through machine state serial kind (OfMethod frame ∷ below) =
    Some (caught_by state frame below serial
    (find (takes machine.program (class_declaring machine.program frame.method) frame.pc kind) (handlers_at machine.program frame.method)))
through machine state serial kind (Initialising class place ∷ below) = Some (through_class machine state below class serial kind)

-- main is entered
abbrev pub entering : Machine → State → Option Plan
entering machine state =
    once_ready machine state machine.program.main_class
    (option_map (entered_from machine state (with_argument state 0) [] machine.program.main_method (Ref state.roots.argument ∷ []))
    (body_of machine.program machine.program.main_method))

module _ (input printed : List ℕ) (machine : Machine) (state : State) where
  caught_same : (frame : MethodFrame) (below : List Frame) (serial : ℕ) (found : Option Handler)
      → caught_by (beside state input printed) frame below serial found ≡ plan_beside input printed (caught_by state frame below serial found)
  caught_same frame below serial None = refl
  caught_same frame below serial (Some handler) = refl

  through_same : (serial kind : ℕ) (frames : List Frame) → Same input printed (through machine (beside state input printed) serial kind frames) (through machine state serial kind frames)
  through_same serial kind [] = refl
  through_same serial kind (OfMethod frame ∷ below) =
      ap Some (caught_same frame below serial
      (find (takes machine.program (class_declaring machine.program frame.method) frame.pc kind) (handlers_at machine.program frame.method)))
  through_same serial kind (Initialising class place ∷ below) =
      ap Some (either_same (plan_beside input printed) (instance machine.program kind error) _ _ _ _ refl refl)

  pub unwinding_same : Same input printed (unwinding machine (beside state input printed)) (unwinding machine state)
  unwinding_same =
      then_same input printed _ _ (object_at state state.roots.pending) (λ object. through_same state.roots.pending object.kind state.roots.frames)

  -- main
  pub entering_same : Same input printed (entering machine (beside state input printed)) (entering machine state)
  entering_same =
      ready_same input printed machine state machine.program.main_class _ _
      (map_same input printed _ _ (body_of machine.program machine.program.main_method)
      (λ body. entered_same input printed machine state (with_argument state 0) [] machine.program.main_method (Ref state.roots.argument ∷ []) body))
