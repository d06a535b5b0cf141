-- An exception is pending: a handler of the topmost frame takes it, or the frame ends (JVMS §2.10, §5.5).
use Rattle.std.proofs.Common.{◌≡◌, ◌∙◌, ap, arith, refl, sym, subst, ℤ, ℕ, suc, ◌==◌, Bool, true, false, List, [], ◌∷◌, Option, Some, None, if◌then◌else◌}
use Rattle.std.specs.List.{Contains, find}
use Rattle.std.proofs.lemmas.Bool.{ne_eqb}
use Rattle.std.proofs.lemmas.List.{length-set}
use Rattle.cb_classfile.specs.declared.handler.Handler.{Handler}
use Rattle.cb_kinds.specs.declared.basic.Basic.{Basic}
use Rattle.cb_link.specs.Named.{handlers_at}
use Rattle.cb_link.specs.Program.{Linked}
use Rattle.cb_link.specs.Subtypes.{instance}
use Rattle.cb_machine.specs.Library.{error}
use Rattle.cb_machine.specs.Machine.{Machine, class_declaring}
use Rattle.cb_machine.specs.Plans.{Plan, leaving, made}
use Rattle.cb_machine.specs.Sites.{exception_in_initializer}
use Rattle.cb_machine.specs.Standing.{at_place}
use Rattle.cb_machine.specs.Steps.{plan}
use Rattle.cb_machine.specs.Throwing.{throwing_with}
use Rattle.cb_machine.specs.Unwinding.{takes}
use Rattle.cb_plain.specs.State.{Frame, Initialising, MethodFrame, Object, OfMethod, State}
use Rattle.cb_plain.specs.Updates.{object_in, with_class, with_frames, with_pending}
use Rattle.cb_plain.specs.declared.class_state.ClassState.TheVariants.{Failed}
use Rattle.cb_plain.specs.declared.value.Value.TheVariants as values
use Rattle.cb_verify.specs.declared.verification_type.VerificationType.TheVariants as types
use Rattle.cb_verify.specs.Typed.{IsTyped}
use Rattle.cb_verify.specs.Within.{Within, kind_of_throwable}
use Rattle.cb_safety.specs.Advancing.{Advances, HoldsOn, IsSpelled}
use Rattle.cb_safety.specs.Causes.{KeepsCause}
use Rattle.cb_safety.specs.Flows.{Arrives, Flows, Handles, thrown_into}
use Rattle.cb_safety.specs.Frames.{AreBelow, AreCovered, AreStanding, IsCovered, result_at}
use Rattle.cb_safety.specs.Held.{HasType, IsStack}
use Rattle.cb_safety.specs.Kinds.{IsOfKind, Kinds, Refers, holds_kind, kind_in, kinds_of}
use Rattle.cb_safety.specs.States.{AreFrames, IsTypedState}
use Rattle.cb_safety.specs.Throwing.{AreThrown}
use Rattle.cb_safety.proofs.Known.{stack_known}
use Rattle.cb_safety.proofs.Asking.{is_at}
use Rattle.cb_safety.proofs.Entries.{within_method}
use Rattle.cb_safety.proofs.Going.{arrived, spelled_rise}
use Rattle.cb_safety.proofs.Handled.{IsTaken, found_among, goes_low, handled, taken}
use Rattle.cb_safety.proofs.Flowing.{flows}
use Rattle.cb_safety.proofs.Searching.{found_passes}
use Rattle.cb_safety.proofs.Throwing.{kind_low, standing_covered}
use Rattle.cb_safety.proofs.Wrapping.{wraps_typed}
use Rattle.std.proofs.lemmas.Option.{same_Some}

-- ---- frames

below_covered : (program : Linked) (kinds : Kinds) (result : Option Basic) (frames : List Frame) → AreBelow program kinds result frames → AreCovered program kinds frames
below_covered program kinds result frames AreBelow.Nothing = AreCovered.Nothing
below_covered program kinds result frames (AreBelow.ACall gives frame below waits rest) =
    AreCovered.AMethod frame below (record { at = waits.at; locals = waits.before; stack = stack_known waits.at.method kinds waits.rest frame.stack waits.stack }) rest
below_covered program kinds result frames (AreBelow.AnInitialiser class place below low standing) = AreCovered.AnInitialisation class place below low standing

-- what is pending, and what is covered
record IsPending (program : Linked) (kinds : Kinds) (serial : ℕ) (frames : List Frame) : Type 0 where
  is : IsOfKind program kinds kind_of_throwable serial
  covered : AreCovered program kinds frames

pending_in : (program : Linked) (kinds : Kinds) (serial place : ℕ) (frames : List Frame) → AreFrames program kinds serial frames → serial ≡ suc place
    → IsPending program kinds serial frames
pending_in program kinds serial place frames (AreFrames.Running own standing) so = absurd (cc so)
pending_in program kinds serial place frames (AreFrames.Unwinding own others is covered) so = record { is = is; covered = covered }

record MethodCovered (program : Linked) (kinds : Kinds) (frame : MethodFrame) (below : List Frame) : Type 0 where
  covered : IsCovered program kinds frame
  under : AreBelow program kinds (result_at program frame.method) below

method_covered : (program : Linked) (kinds : Kinds) (frame : MethodFrame) (below : List Frame) → AreCovered program kinds (OfMethod frame ∷ below)
    → MethodCovered program kinds frame below
method_covered program kinds frame below (AreCovered.AMethod own others covered under) = record { covered = covered; under = under }

class_covered : (program : Linked) (kinds : Kinds) (class place : ℕ) (below : List Frame) → AreCovered program kinds (Initialising class place ∷ below)
    → AreStanding program kinds below
class_covered program kinds class place below (AreCovered.AnInitialisation own at others low standing) = standing

-- ---- states

still_pending : (program : Linked) (state : State) (frames : List Frame) → IsTypedState program state
    → IsOfKind program (kinds_of state.objects) kind_of_throwable state.roots.pending → AreCovered program (kinds_of state.objects) frames
    → IsTypedState program (with_frames state frames)
still_pending program state frames typed is covered = record {
  heap = typed.heap;
  roots = record {
    frames = AreFrames.Unwinding state.roots.pending frames is covered;
    statics = typed.roots.statics;
    classes = typed.roots.classes;
    tables = typed.roots.tables;
    argument = typed.roots.argument;
  };
  input = typed.input;
}

has_failed : (program : Linked) (state : State) (class : ℕ) → IsTypedState program state → IsTypedState program (with_class state class Failed)
has_failed program state class typed = record {
  heap = typed.heap;
  roots = record {
    frames = typed.roots.frames;
    statics = typed.roots.statics;
    classes = length-set state.roots.classes class Failed ∙ typed.roots.classes;
    tables = typed.roots.tables;
    argument = typed.roots.argument;
  };
  input = typed.input;
}

runs_again : (program : Linked) (state : State) (frames : List Frame) → IsTypedState program state → AreStanding program (kinds_of state.objects) frames
    → IsTypedState program (with_pending (with_frames state frames) 0)
runs_again program state frames typed standing = record {
  heap = typed.heap;
  roots = record {
    frames = AreFrames.Running frames standing;
    statics = typed.roots.statics;
    classes = typed.roots.classes;
    tables = typed.roots.tables;
    argument = typed.roots.argument;
  };
  input = typed.input;
}

-- ---- the frame of a method

abbrev caught_by : State → MethodFrame → List Frame → ℕ → Option Handler → Plan
caught_by state frame below serial None = leaving (with_frames state below)
caught_by state frame below serial (Some handler) =
    leaving (with_pending (with_frames state (OfMethod (at_place frame handler.handler frame.locals (values.Ref serial ∷ [])) ∷ below)) 0)

abbrev found_in : Machine → MethodFrame → ℕ → Option Handler
found_in machine frame kind = find (takes machine.program (class_declaring machine.program frame.method) frame.pc kind) (handlers_at machine.program frame.method)

module _ (machine : Machine) (state : State) (frame : MethodFrame) (below : List Frame) (kind : ℕ) (fits : IsTyped machine.program) (spelled : IsSpelled machine.program)
    (holds : HoldsOn machine.program) (typed : IsTypedState machine.program state) (covered : IsCovered machine.program (kinds_of state.objects) frame)
    (under : AreBelow machine.program (kinds_of state.objects) (result_at machine.program frame.method) below)
    (there : kind_in (kinds_of state.objects) state.roots.pending ≡ Some kind) (goes : holds_kind machine.program kind kind_of_throwable ≡ true) where
  abbrev program : Linked
  program = machine.program

  abbrev kinds : Kinds
  kinds = kinds_of state.objects

  abbrev method : Within
  method = covered.at.method

  own : method.program ≡ program
  own = (within_method program frame.method method covered.at.within).own

  -- it goes on at the handler
  goes_on_at : (place caught : ℕ) → holds_kind program kind caught ≡ true → Arrives program frame.method (thrown_into covered.at.types caught) place
      → IsTypedState program (with_pending (with_frames state (OfMethod (at_place frame place frame.locals (values.Ref state.roots.pending ∷ [])) ∷ below)) 0)
  goes_on_at place caught held arrives =
      let refers : Refers program kinds caught state.roots.pending = Refers.To state.roots.pending (record { own = kind; there = there; goes = held }) in
      let stack : IsStack method kinds (types.Object caught ∷ []) (values.Ref state.roots.pending ∷ []) =
      IsStack.Upon (types.Object caught) (values.Ref state.roots.pending) [] []
      (HasType.AReference caught state.roots.pending (subst (λ (own : Linked). Refers own kinds caught state.roots.pending) (sym own) refers)) refl IsStack.Empty in
      let both = arrived program kinds method own holds (thrown_into covered.at.types caught) arrives.there frame.locals (values.Ref state.roots.pending ∷ []) arrives.goes covered.locals stack in
      runs_again program state (OfMethod (at_place frame place frame.locals (values.Ref state.roots.pending ∷ [])) ∷ below) typed
      (AreStanding.AMethod (at_place frame place frame.locals (values.Ref state.roots.pending ∷ [])) below
      (record {
        at = record { method = method; within = covered.at.within; types = arrives.there; before = arrives.before; slots = covered.at.slots };
        locals = both.0;
        stack = both.1;
      }) under)

  handles : (handler : Handler) → found_in machine frame kind ≡ Some handler → Handles program frame.method method covered.at.types handler × IsTaken program method frame.pc kind handler
  handles handler so =
      let own_taken : IsTaken program method frame.pc kind handler =
      taken program frame.method method kind covered.at.within (kind_low program kind kind_of_throwable goes) goes frame.pc handler
      (found_passes (takes program (class_declaring program frame.method) frame.pc kind) (handlers_at program frame.method) handler so) in
      let flow : Flows program frame.method frame.pc covered.at.types = flows program frame.method frame.pc covered.at.types fits (spelled_rise program spelled) covered.at.before in
      let same : flow.method ≡ method = same_Some flow.method method (sym flow.within ∙ covered.at.within) in
      let among : Contains flow.method.body.handlers handler =
      subst (λ (handlers : List Handler). Contains handlers handler) ((handled program frame.method method covered.at.within).handlers ∙ ap (λ (method : Within). method.body.handlers) (sym same))
      (found_among (takes program (class_declaring program frame.method) frame.pc kind) (handlers_at program frame.method) handler so) in
      (subst (λ (method : Within). Handles program frame.method method covered.at.types handler) same (flow.handlers handler among own_taken.covered), own_taken)

  caught_typed : (found : Option Handler) → found_in machine frame kind ≡ found → IsTypedState program (made (caught_by state frame below state.roots.pending found))
  caught_typed None so =
      still_pending program state below typed (record { own = kind; there = there; goes = goes }) (below_covered program kinds (result_at program frame.method) below under)
  caught_typed (Some handler) so =
      let (handles, own_taken) = handles handler so in
      goes_on_at handler.handler handles.kind (own_taken.holds handles.kind handles.caught (goes_low program handles.kind kind_of_throwable handles.throwable)) handles.arrives

-- ---- the frame of a class that is initialised

abbrev failed_by : Machine → State → List Frame → ℕ → Bool → Plan
failed_by machine state below class is_error =
    if is_error then leaving (with_class (with_frames state below) class Failed)
    else throwing_with machine exception_in_initializer 0 state.roots.pending (leaving (with_class (with_frames state below) class Failed))

left_failed : (program : Linked) (state : State) (below : List Frame) (class : ℕ) → IsTypedState program state
    → IsOfKind program (kinds_of state.objects) kind_of_throwable state.roots.pending → AreStanding program (kinds_of state.objects) below
    → IsTypedState program (with_class (with_frames state below) class Failed)
left_failed program state below class typed is standing =
    has_failed program (with_frames state below) class (still_pending program state below typed is (standing_covered program (kinds_of state.objects) below standing))

failed_typed : (machine : Machine) (state : State) (below : List Frame) (class : ℕ) (is_error : Bool) → AreThrown machine.program → KeepsCause machine.program
    → IsTypedState machine.program state → IsOfKind machine.program (kinds_of state.objects) kind_of_throwable state.roots.pending
    → AreStanding machine.program (kinds_of state.objects) below → IsTypedState machine.program (made (failed_by machine state below class is_error))
failed_typed machine state below class true thrown keeps typed is standing = left_failed machine.program state below class typed is standing
failed_typed machine state below class false thrown keeps typed is standing =
    wraps_typed machine (with_class (with_frames state below) class Failed) state.roots.pending
    (left_failed machine.program state below class typed is standing) (thrown exception_in_initializer (7, omega arith, refl)) keeps is

-- ---- the law

abbrev through : Machine → State → Frame → List Frame → ℕ → Plan
through machine state (OfMethod frame) below kind = caught_by state frame below state.roots.pending (found_in machine frame kind)
through machine state (Initialising class place) below kind = failed_by machine state below class (instance machine.program kind error)

through_typed : (machine : Machine) (state : State) (first : Frame) (below : List Frame) (kind : ℕ) → IsTyped machine.program → IsSpelled machine.program
    → HoldsOn machine.program → AreThrown machine.program → KeepsCause machine.program → IsTypedState machine.program state
    → AreCovered machine.program (kinds_of state.objects) (first ∷ below) → kind_in (kinds_of state.objects) state.roots.pending ≡ Some kind
    → holds_kind machine.program kind kind_of_throwable ≡ true → IsTypedState machine.program (made (through machine state first below kind))
through_typed machine state (OfMethod frame) below kind fits spelled holds thrown keeps typed covered there goes =
    let top : MethodCovered machine.program (kinds_of state.objects) frame below = method_covered machine.program (kinds_of state.objects) frame below covered in
    caught_typed machine state frame below kind fits spelled holds typed top.covered top.under there goes (found_in machine frame kind) refl
through_typed machine state (Initialising class place) below kind fits spelled holds thrown keeps typed covered there goes =
    failed_typed machine state below class (instance machine.program kind error) thrown keeps typed (record { own = kind; there = there; goes = goes })
    (class_covered machine.program (kinds_of state.objects) class place below covered)

abbrev with_all : State → List Frame → ℕ → Option ℤ → State
with_all state frames pending exit = record {
  roots = record {
    frames = frames;
    pending = pending;
    statics = state.roots.statics;
    classes = state.roots.classes;
    tables = state.roots.tables;
    argument = state.roots.argument;
  };
  objects = state.objects;
  input = state.input;
  printed = state.printed;
  exit = exit;
}

not_zero : (place : ℕ) → (suc place == 0) ≡ false
not_zero place = ne_eqb (suc place) 0 (λ same. absurd (cc same))

caught_with : (machine : Machine) (state : State) (place : ℕ) (frame : MethodFrame) (below : List Frame) (object : Object) (found : Option Handler)
    → object_in state.objects (suc place) ≡ Some object → found_in machine frame object.kind ≡ found
    → plan machine (with_all state (OfMethod frame ∷ below) (suc place) None) ≡ Some (caught_by (with_all state (OfMethod frame ∷ below) (suc place) None) frame below (suc place) found)
caught_with machine state place frame below object None there so = rw (not_zero place, there, so) refl
caught_with machine state place frame below object (Some handler) there so = rw (not_zero place, there, so) refl

failed_with : (machine : Machine) (state : State) (place class turn : ℕ) (below : List Frame) (object : Object) → object_in state.objects (suc place) ≡ Some object
    → plan machine (with_all state (Initialising class turn ∷ below) (suc place) None)
    ≡ Some (failed_by machine (with_all state (Initialising class turn ∷ below) (suc place) None) below class (instance machine.program object.kind error))
failed_with machine state place class turn below object there = rw (not_zero place, there) refl

abbrev Unwinds : Machine → Frame → List Frame → ℕ → State → Type 0
Unwinds machine first below kind state = plan machine state ≡ Some (through machine state first below kind)

unwinds_with : (machine : Machine) (state : State) (place : ℕ) (first : Frame) (below : List Frame) (object : Object) → object_in state.objects (suc place) ≡ Some object
    → Unwinds machine first below object.kind (with_all state (first ∷ below) (suc place) None)
unwinds_with machine state place (OfMethod frame) below object there = caught_with machine state place frame below object (found_in machine frame object.kind) there refl
unwinds_with machine state place (Initialising class turn) below object there = failed_with machine state place class turn below object there

unwinds : (machine : Machine) (state : State) (place : ℕ) (first : Frame) (below : List Frame) (object : Object) → object_in state.objects state.roots.pending ≡ Some object
    → state.exit ≡ None → state.roots.pending ≡ suc place → state.roots.frames ≡ first ∷ below → Unwinds machine first below object.kind state
unwinds machine state place first below object there none pending frames =
    subst (Unwinds machine first below object.kind) (sym same)
    (unwinds_with machine state place first below object (subst (λ (serial : ℕ). object_in state.objects serial ≡ Some object) pending there))
  where
    same : state ≡ with_all state (first ∷ below) (suc place) None
    same =
        ap (λ (exit : Option ℤ). with_all state state.roots.frames state.roots.pending exit) none
        ∙ ap (λ (pending : ℕ). with_all state state.roots.frames pending None) pending
        ∙ ap (λ (frames : List Frame). with_all state frames (suc place) None) frames

pub unwinding_advances : (machine : Machine) (state : State) (place : ℕ) (first : Frame) (below : List Frame) → IsTyped machine.program → IsSpelled machine.program
    → HoldsOn machine.program → AreThrown machine.program → KeepsCause machine.program → IsTypedState machine.program state
    → state.exit ≡ None → state.roots.pending ≡ suc place → state.roots.frames ≡ first ∷ below → Advances machine state
unwinding_advances machine state place first below fits spelled holds thrown keeps typed none pending frames =
    let own : IsPending machine.program (kinds_of state.objects) state.roots.pending state.roots.frames =
    pending_in machine.program (kinds_of state.objects) state.roots.pending place state.roots.frames typed.roots.frames pending in
    let at = is_at state.objects state.roots.pending own.is.own own.is.there in
    record {
      plan = through machine state first below at.object.kind;
      is = unwinds machine state place first below at.object at.there none pending frames;
      typed = through_typed machine state first below at.object.kind fits spelled holds thrown keeps typed
          (subst (AreCovered machine.program (kinds_of state.objects)) frames own.covered)
          (own.is.there ∙ ap Some (sym at.is))
          (subst (λ (kind : ℕ). holds_kind machine.program kind kind_of_throwable ≡ true) (sym at.is) own.is.goes);
    }
