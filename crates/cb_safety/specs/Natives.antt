-- What stands where a native is called (JVMS §2.6.4, §6.5).
use Rattle.std.specs.Prelude.{◌≡◌, ℕ, Bool, true, false, List, [], ◌∷◌, ◌++◌, map, Option, Some, option_and_then, option_map, slice_get}
use Rattle.cb_classfile.specs.Flags.{acc_static}
use Rattle.cb_classfile.specs.declared.method.Method.{Method}
use Rattle.cb_library.specs.declared.native.Native.{Native}
use Rattle.cb_link.specs.Numbers.{Numbered, has_flag}
use Rattle.cb_link.specs.declared.linked.LinkedMethod.{LinkedMethod}
use Rattle.cb_machine.specs.Calling.{answered}
use Rattle.cb_machine.specs.Machine.{Machine, method_numbered}
use Rattle.cb_machine.specs.Natives.{native_of, performed}
use Rattle.cb_machine.specs.Performing.{Performed, Gives, Stops}
use Rattle.cb_machine.specs.Plans.{Plan, with_left}
use Rattle.cb_machine.specs.Standing.{with_stack}
use Rattle.cb_machine.specs.Steps as steps
use Rattle.cb_plain.specs.State.{Frame, MethodFrame, OfMethod, State}
use Rattle.cb_plain.specs.Updates.{with_frames}
use Rattle.cb_plain.specs.declared.value.Value.{Value}
use Rattle.cb_verify.specs.Types.{type_of}
use Rattle.cb_verify.specs.Within.{Within}
use Rattle.cb_verify.specs.declared.verification_type.VerificationType.{VerificationType}
use Rattle.cb_verify.specs.declared.verification_type.VerificationType.TheVariants.{Object}
use Rattle.cb_safety.specs.Frames.{Waits}
use Rattle.cb_safety.specs.Held.{HaveTypes}
use Rattle.cb_safety.specs.Kinds.{kinds_of}

-- the plan of a native's call: its answer is laid on the stack of the frame, or it stops the call
abbrev pub with_answer : Machine → MethodFrame → List Frame → List Value → Performed → Option Plan
with_answer machine frame below rest (Stops plan) = Some plan
with_answer machine frame below rest (Gives plan answer) =
    option_map (λ frame. with_left plan (with_frames plan.left (OfMethod frame ∷ below))) (answered machine.program (with_stack frame rest) answer)

-- the object on which a method of a class is called, which a static one hasn't
abbrev pub receiver_types : Bool → ℕ → List VerificationType
receiver_types true class = []
receiver_types false class = Object class ∷ []

-- the topmost frame calls a native: the arguments are of the types that it takes, and with what it gives the frame goes on
pub record CallsNative (machine : Machine) (state : State) (frame : MethodFrame) (below : List Frame) : Type 0 where
  pub number : ℕ
  pub native : Native
  pub linked : LinkedMethod
  pub numbered : Numbered Method
  pub arguments : List Value
  pub rest : List Value
  pub method : Within
  pub is_native : native_of machine.program number ≡ Some native
  pub is_linked : slice_get machine.program.methods number ≡ Some linked
  pub is_numbered : method_numbered machine.program number ≡ Some numbered
  pub does : steps.plan machine state ≡ option_and_then (with_answer machine frame below rest) (performed machine state native arguments)
  pub own : method.program ≡ machine.program
  pub takes : HaveTypes method (kinds_of state.objects) (receiver_types (has_flag acc_static numbered.member.flags.0) linked.class ++ map type_of linked.parameters) arguments
  pub waits : Waits machine.program (kinds_of state.objects) linked.result (with_stack frame rest)
