-- What a native gives or throws: where it is typed the state of its call advances.
use Rattle.std.proofs.Common.{◌≡◌, ◌∙◌, ap, sym, subst, ℕ, ℤ, FitsSigned, Bool, true, false, List, [], ◌∷◌, ◌++◌, map, Option, Some, option_and_then, option_map}
use Rattle.std.specs.Int.{w32, w64}
use Rattle.cb_classfile.specs.Flags.{acc_static}
use Rattle.cb_kinds.specs.declared.basic.Basic.{Basic}
use Rattle.cb_kinds.specs.declared.basic.Basic.TheVariants as basics
use Rattle.cb_link.specs.Numbers.{has_flag}
use Rattle.cb_link.specs.Program.{Linked}
use Rattle.cb_machine.specs.Machine.{Machine}
use Rattle.cb_machine.specs.Natives.{performed}
use Rattle.cb_machine.specs.Performing.{Performed, Gives, Stops}
use Rattle.cb_machine.specs.Plans.{Plan, made, with_left}
use Rattle.cb_machine.specs.Standing.{with_stack}
use Rattle.cb_machine.specs.Steps.{plan}
use Rattle.cb_plain.specs.State.{Frame, MethodFrame, OfMethod, State}
use Rattle.cb_plain.specs.Updates.{with_frames}
use Rattle.cb_plain.specs.declared.value.Value.{Value}
use Rattle.cb_plain.specs.declared.value.Value.TheVariants as values
use Rattle.cb_verify.specs.declared.verification_type.VerificationType.{VerificationType}
use Rattle.cb_verify.specs.declared.verification_type.VerificationType.TheVariants.{Int, Long, Object}
use Rattle.cb_verify.specs.Typed.{IsTyped}
use Rattle.cb_verify.specs.Types.{type_of}
use Rattle.cb_verify.specs.Within.{Within}
use Rattle.cb_safety.specs.Advancing.{Advances, HoldsOn, IsSpelled}
use Rattle.cb_safety.specs.Frames.{AreStanding, result_at}
use Rattle.cb_safety.specs.Held.{HasType, HaveTypes}
use Rattle.cb_safety.specs.Kinds.{Kinds, Refers, kinds_of}
use Rattle.cb_safety.specs.Natives.{CallsNative, receiver_types, with_answer}
use Rattle.cb_safety.specs.Performing.{HasNatives, HasSignature}
use Rattle.cb_safety.specs.Signatures.{gives_of, takes_of}
use Rattle.cb_safety.specs.States.{IsTypedState}
use Rattle.cb_safety.proofs.Extended.{are_below_more, waits_more}
use Rattle.cb_safety.proofs.Going.{Topmost, topmost, with_topmost}
use Rattle.cb_safety.proofs.Grown.{Grows}
use Rattle.cb_safety.proofs.Returning.{Answered, Answers, goes_behind}

-- ---- what is typed of it

-- with an answer the plan's state is typed, of which the objects are those that there were, and others behind them
pub record Leaves (program : Linked) (kinds : Kinds) (result : Option Basic) (plan : Plan) (answer : List Value) : Type 0 where
  pub typed : IsTypedState program (made plan)
  pub grows : Grows kinds plan
  pub answers : Answers program (kinds ++ grows.more) result answer

pub data IsPerformed (program : Linked) (kinds : Kinds) (result : Option Basic) : Option Performed → Type 0 where
  Given : (plan : Plan) → (answer : List Value) → Leaves program kinds result plan answer → IsPerformed program kinds result (Some (Gives plan answer))
  Stopped : (plan : Plan) → IsTypedState program (made plan) → IsPerformed program kinds result (Some (Stops plan))

-- ---- the state of its call

performed_advances : (machine : Machine) (state : State) (frame : MethodFrame) (below : List Frame) → IsTyped machine.program → IsSpelled machine.program
    → HoldsOn machine.program → IsTypedState machine.program state → state.roots.pending ≡ 0 → state.roots.frames ≡ OfMethod frame ∷ below
    → (calls : CallsNative machine state frame below)
    → IsPerformed machine.program (kinds_of state.objects) calls.linked.result (performed machine state calls.native calls.arguments) → Advances machine state
performed_advances machine state frame below fits spelled holds typed zero frames calls is =
    go (performed machine state calls.native calls.arguments) is calls.does
  where
    kinds : Kinds
    kinds = kinds_of state.objects

    top : Topmost machine.program kinds frame below
    top = topmost machine.program state frame below typed zero frames

    go : (found : Option Performed) → IsPerformed machine.program kinds calls.linked.result found
        → plan machine state ≡ option_and_then (with_answer machine frame below calls.rest) found → Advances machine state
    go found (IsPerformed.Stopped own stopped) does = record { plan = own; is = does; typed = stopped }
    go found (IsPerformed.Given own answer left) does =
        let grown : Kinds = kinds ++ left.grows.more in
        let on : Answered machine.program grown (with_stack frame calls.rest) below answer =
        goes_behind machine.program fits spelled holds grown calls.linked.result (with_stack frame calls.rest) below answer
        (waits_more machine.program kinds left.grows.more calls.linked.result (with_stack frame calls.rest) calls.waits)
        (are_below_more machine.program kinds left.grows.more (result_at machine.program frame.method) below top.under) left.answers in
        record {
          plan = with_left own (with_frames own.left (OfMethod on.next ∷ below));
          is = does ∙ ap (option_map (λ (frame : MethodFrame). with_left own (with_frames own.left (OfMethod frame ∷ below)))) on.is;
          typed = with_topmost machine.program (made own) (OfMethod on.next ∷ below) left.typed left.grows.runs
              (subst (λ (kinds : Kinds). AreStanding machine.program kinds (OfMethod on.next ∷ below)) (sym left.grows.is) on.standing);
        }

-- ---- its arguments

pub data AreGiven (program : Linked) (kinds : Kinds) : List VerificationType → List Value → Type 0 where
  Nothing : AreGiven program kinds [] []
  AnInt : (number : ℤ) → (types : List VerificationType) → (held : List Value) → FitsSigned w32 number → AreGiven program kinds types held →
      AreGiven program kinds (Int ∷ types) (values.Int number ∷ held)
  ALong : (number : ℤ) → (types : List VerificationType) → (held : List Value) → FitsSigned w64 number → AreGiven program kinds types held →
      AreGiven program kinds (Long ∷ types) (values.Long number ∷ held)
  AnObject : (kind serial : ℕ) → (types : List VerificationType) → (held : List Value) → Refers program kinds kind serial → AreGiven program kinds types held →
      AreGiven program kinds (Object kind ∷ types) (values.Ref serial ∷ held)

basic_given : (method : Within) (kinds : Kinds) (basic : Basic) (value : Value) (types : List VerificationType) (held : List Value) → HasType method kinds (type_of basic) value
    → AreGiven method.program kinds types held → AreGiven method.program kinds (type_of basic ∷ types) (value ∷ held)
basic_given method kinds (basics.Reference kind) value types held (HasType.AReference own serial refers) more = AreGiven.AnObject kind serial types held refers more
basic_given method kinds basics.Long value types held (HasType.ALong number fits) more = AreGiven.ALong number types held fits more
basic_given method kinds basics.Boolean value types held (HasType.AnInt number fits) more = AreGiven.AnInt number types held fits more
basic_given method kinds basics.Byte value types held (HasType.AnInt number fits) more = AreGiven.AnInt number types held fits more
basic_given method kinds basics.Char value types held (HasType.AnInt number fits) more = AreGiven.AnInt number types held fits more
basic_given method kinds basics.Short value types held (HasType.AnInt number fits) more = AreGiven.AnInt number types held fits more
basic_given method kinds basics.Int value types held (HasType.AnInt number fits) more = AreGiven.AnInt number types held fits more

basics_given : (method : Within) (kinds : Kinds) (parameters : List Basic) (held : List Value) → HaveTypes method kinds (map type_of parameters) held
    → AreGiven method.program kinds (map type_of parameters) held
basics_given method kinds [] held HaveTypes.NoMore = AreGiven.Nothing
basics_given method kinds (basic ∷ parameters) held (HaveTypes.And type value others rest has have) =
    basic_given method kinds basic value (map type_of parameters) rest has (basics_given method kinds parameters rest have)

all_given : (method : Within) (kinds : Kinds) (static : Bool) (class : ℕ) (parameters : List Basic) (held : List Value)
    → HaveTypes method kinds (receiver_types static class ++ map type_of parameters) held
    → AreGiven method.program kinds (receiver_types static class ++ map type_of parameters) held
all_given method kinds true class parameters held have = basics_given method kinds parameters held have
all_given method kinds false class parameters held (HaveTypes.And type value others rest (HasType.AReference own serial refers) have) =
    AreGiven.AnObject class serial (map type_of parameters) rest refers (basics_given method kinds parameters rest have)

-- those of a native are of the types that it takes
arguments_given : (machine : Machine) (state : State) (frame : MethodFrame) (below : List Frame) (calls : CallsNative machine state frame below) → HasNatives machine.program
    → AreGiven machine.program (kinds_of state.objects) (takes_of machine.program calls.native) calls.arguments
arguments_given machine state frame below calls natives =
    let signature : HasSignature machine.program calls.native calls.linked calls.numbered =
    natives.signatures calls.number calls.native calls.linked calls.numbered calls.is_native calls.is_linked calls.is_numbered in
    let given = all_given calls.method (kinds_of state.objects) (has_flag acc_static calls.numbered.member.flags.0) calls.linked.class calls.linked.parameters calls.arguments calls.takes in
    subst (λ (types : List VerificationType). AreGiven machine.program (kinds_of state.objects) types calls.arguments) signature.takes
    (subst (λ (program : Linked). AreGiven program (kinds_of state.objects) (receiver_types (has_flag acc_static calls.numbered.member.flags.0) calls.linked.class ++ map type_of calls.linked.parameters) calls.arguments)
    calls.own given)

result_given : (machine : Machine) (state : State) (frame : MethodFrame) (below : List Frame) (calls : CallsNative machine state frame below) → HasNatives machine.program
    → calls.linked.result ≡ gives_of machine.program calls.native
result_given machine state frame below calls natives =
    (natives.signatures calls.number calls.native calls.linked calls.numbered calls.is_native calls.is_linked calls.is_numbered).gives

-- ---- with what is given the state of a call advances

pub given_advances : (machine : Machine) (state : State) (frame : MethodFrame) (below : List Frame) → HasNatives machine.program → IsTyped machine.program → IsSpelled machine.program
    → HoldsOn machine.program → IsTypedState machine.program state → state.roots.pending ≡ 0 → state.roots.frames ≡ OfMethod frame ∷ below
    → (calls : CallsNative machine state frame below)
    → (AreGiven machine.program (kinds_of state.objects) (takes_of machine.program calls.native) calls.arguments
    → IsPerformed machine.program (kinds_of state.objects) (gives_of machine.program calls.native) (performed machine state calls.native calls.arguments)) → Advances machine state
given_advances machine state frame below natives fits spelled holds typed zero frames calls by =
    performed_advances machine state frame below fits spelled holds typed zero frames calls
    (subst (λ (result : Option Basic). IsPerformed machine.program (kinds_of state.objects) result (performed machine state calls.native calls.arguments))
    (sym (result_given machine state frame below calls natives)) (by (arguments_given machine state frame below calls natives)))
