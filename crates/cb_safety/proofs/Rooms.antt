-- Room in the frames of a typed state.
use Rattle.std.proofs.Common.{◌≡◌, ◌∙◌, ap, sym, subst, arith, ℕ, ◌+◌, ◌≤◌, inl, inr, true, List, [], ◌∷◌, length, Option, Some, None}
use Rattle.std.specs.Prelude.{◌⊎◌}
use Rattle.std.specs.Cmp.Lexicographic.{pointwise}
use Rattle.std.proofs.lemmas.Bool.{and_parts, false≢true}
use Rattle.std.proofs.lemmas.Option.{same_Some}
use Rattle.std.specs.List.{Contains, find}
use Rattle.cb_classfile.specs.declared.handler.Handler.{Handler}
use Rattle.cb_hierarchy.specs.Classes.{listed}
use Rattle.cb_kinds.specs.declared.basic.Basic.{Basic}
use Rattle.cb_link.specs.Named.{handlers_at}
use Rattle.cb_link.specs.Program.{Linked}
use Rattle.cb_machine.specs.Unwinding.{takes}
use Rattle.cb_plain.specs.State.{Frame, MethodFrame, OfMethod, State}
use Rattle.cb_plain.specs.declared.value.Value.{Value}
use Rattle.cb_plain.specs.declared.value.Value.TheVariants as values
use Rattle.cb_verify.specs.declared.verification_type.VerificationType.{VerificationType}
use Rattle.cb_verify.specs.declared.verification_type.VerificationType.TheVariants as types
use Rattle.cb_verify.specs.Frames.{height, stack_words}
use Rattle.cb_verify.specs.Frames as verified
use Rattle.cb_verify.specs.Typed.{IsTyped, covers}
use Rattle.cb_verify.specs.Types.{goes_to, type_of, words}
use Rattle.cb_verify.specs.Within.{Within}
use Rattle.cb_safety.specs.Advancing.{IsSpelled}
use Rattle.cb_safety.specs.Flows.{Flows, Handles, thrown_into}
use Rattle.cb_safety.specs.Frames.{AreBelow, AreCovered, AreStanding, Before, IsCovered, Stands, Waits, result_at, result_types}
use Rattle.cb_safety.specs.Held.{words_in}
use Rattle.cb_safety.specs.Kinds.{Kinds, kinds_of}
use Rattle.cb_safety.specs.Room.{HasRoom, MayCatch}
use Rattle.cb_safety.specs.States.{AreFrames, IsTypedState}
use Rattle.cb_safety.proofs.Known.{stack_known}
use Rattle.cb_safety.proofs.Going.{spelled_rise, topmost}
use Rattle.cb_safety.proofs.Handled.{found_among, handled}
use Rattle.cb_safety.proofs.Flowing.{flows}
use Rattle.cb_safety.proofs.Searching.{found_passes}
use Rattle.cb_safety.proofs.Sized.{IsSized, height_append, leaves_sized, typed_sized}
use Rattle.cb_safety.proofs.Taken.{stack_height, words_on}
use Rattle.cb_safety.proofs.Variables.{same_length}

-- the verifier's frame before the instruction of a frame
at_sized : (program : Linked) (frame : MethodFrame) (at : Before program frame) → IsSized at.method at.types
at_sized program frame at = typed_sized program frame.method frame.pc at.method at.types at.within at.before

-- there are no more values than words
one_word : (value : Value) → 1 ≤ words_in value
one_word (values.Long number) = omega arith
one_word value = omega arith

pub few_values : (stack : List Value) → length stack ≤ words_on stack
few_values [] = omega arith
few_values (value ∷ stack) = omega (arith, few_values stack, one_word value)

pub standing_frames_fit : (program : Linked) (kinds : Kinds) (frame : MethodFrame) → Stands program kinds frame → HasRoom program frame 0
standing_frames_fit program kinds frame stands =
    let at : Before program frame = stands.at in
    let sized : IsSized at.method at.types = at_sized program frame at in
    let locals : length frame.locals ≡ at.method.body.max_locals = sym (same_length at.method kinds at.types.locals frame.locals stands.locals) ∙ sized.locals in
    record {
      method = at.method;
      within = at.within;
      locals = locals;
      slots = at.slots;
      room = omega (arith, locals, at.slots, few_values frame.stack, stack_height at.method kinds at.types.stack frame.stack stands.stack, sized.stack);
    }

-- a result has a word at least
pub type_words : (type : VerificationType) → 1 ≤ words type
type_words types.Long = omega arith
type_words type = omega arith

result_height : (result : Option Basic) → length (listed result) ≤ height (result_types result)
result_height None = omega arith
result_height (Some basic) = omega (arith, type_words (type_of basic))

pub waiting_frames_fit : (program : Linked) (kinds : Kinds) (result : Option Basic) (frame : MethodFrame) → Waits program kinds result frame
    → HasRoom program frame (length (listed result))
waiting_frames_fit program kinds result frame waits =
    let at : Before program frame = waits.at in
    let sized : IsSized at.method at.types = at_sized program frame at in
    let after : IsSized at.method waits.after = leaves_sized at.method frame.pc waits.insn at.types waits.after sized waits.leaves in
    let locals : length frame.locals ≡ at.method.body.max_locals = sym (same_length at.method kinds at.types.locals frame.locals waits.before) ∙ sized.locals in
    record {
      method = at.method;
      within = at.within;
      locals = locals;
      slots = at.slots;
      room = omega (
        arith,
        locals,
        at.slots,
        few_values frame.stack,
        stack_height at.method kinds waits.rest frame.stack waits.stack,
        result_height result,
        height_append (result_types result) waits.rest,
        ap height waits.answered,
        after.stack,
      );
    }

-- in a typed state
pub frames_fit : (program : Linked) (state : State) (frame : MethodFrame) (below : List Frame) → IsTypedState program state → state.roots.pending ≡ 0
    → state.roots.frames ≡ OfMethod frame ∷ below → HasRoom program frame 0
frames_fit program state frame below typed zero same =
    standing_frames_fit program (kinds_of state.objects) frame (topmost program state frame below typed zero same).stands

caller_waits : (program : Linked) (kinds : Kinds) (result : Option Basic) (caller : MethodFrame) (below : List Frame) → AreBelow program kinds result (OfMethod caller ∷ below)
    → Waits program kinds result caller
caller_waits program kinds result caller below (AreBelow.ACall own frame rest waits under) = waits

under_standing : (program : Linked) (kinds : Kinds) (frame : MethodFrame) (below : List Frame) → AreStanding program kinds (OfMethod frame ∷ below)
    → AreBelow program kinds (result_at program frame.method) below
under_standing program kinds frame below (AreStanding.AMethod own rest stands under) = under

under_covered : (program : Linked) (kinds : Kinds) (frame : MethodFrame) (below : List Frame) → AreCovered program kinds (OfMethod frame ∷ below)
    → AreBelow program kinds (result_at program frame.method) below
under_covered program kinds frame below (AreCovered.AMethod own rest covered under) = under

under_topmost : (program : Linked) (kinds : Kinds) (pending : ℕ) (frame : MethodFrame) (below : List Frame) → AreFrames program kinds pending (OfMethod frame ∷ below)
    → AreBelow program kinds (result_at program frame.method) below
under_topmost program kinds pending frame below (AreFrames.Running frames standing) = under_standing program kinds frame below standing
under_topmost program kinds pending frame below (AreFrames.Unwinding serial frames is covered) = under_covered program kinds frame below covered

pub callers_fit : (program : Linked) (state : State) (frame caller : MethodFrame) (below : List Frame) → IsTypedState program state
    → state.roots.frames ≡ OfMethod frame ∷ OfMethod caller ∷ below → HasRoom program caller (length (listed (result_at program frame.method)))
callers_fit program state frame caller below typed same =
    let kinds : Kinds = kinds_of state.objects in
    waiting_frames_fit program kinds (result_at program frame.method) caller
    (caller_waits program kinds (result_at program frame.method) caller below
    (under_topmost program kinds state.roots.pending frame (OfMethod caller ∷ below)
    (subst (λ (frames : List Frame). AreFrames program kinds state.roots.pending frames) same typed.roots.frames)))

-- ---- an exception

no_words : (program : Linked) (kind : ℕ) (stack : List VerificationType) → pointwise (goes_to program) (types.Object kind ∷ []) (stack_words stack) ≡ true → 1 ≤ height stack
no_words program kind [] goes = absurd (false≢true goes)
no_words program kind (type ∷ stack) goes = omega (arith, type_words type)

thrown_fits : (program : Linked) (method : Within) (frame other : verified.Frame) (kind : ℕ) → IsSized method other
    → (thrown_into frame kind ≡ other) ⊎ (verified.frame_goes_to program (thrown_into frame kind) other ≡ true) → 1 ≤ method.body.max_stack
thrown_fits program method frame other kind sized (inl same) =
    omega (arith, sized.stack, ap (λ (own : verified.Frame). height own.stack) same, type_words (types.Object kind))
thrown_fits program method frame other kind sized (inr goes) =
    omega (arith, sized.stack, no_words program kind other.stack (and_parts _ _ (and_parts _ _ goes).0).1)

pub covered_frames_fit : (program : Linked) (kinds : Kinds) (frame : MethodFrame) → IsTyped program → IsSpelled program → IsCovered program kinds frame → MayCatch program frame
covered_frames_fit program kinds frame fits spelled covered =
    let at : Before program frame = covered.at in
    let locals : length frame.locals ≡ at.method.body.max_locals =
    sym (same_length at.method kinds at.types.locals frame.locals covered.locals) ∙ (at_sized program frame at).locals in
    let flow : Flows program frame.method frame.pc at.types = flows program frame.method frame.pc at.types fits (spelled_rise program spelled) at.before in
    record {
      method = at.method;
      within = at.within;
      locals = locals;
      slots = at.slots;
      room = λ handler among covers_it.
          let handles : Handles program frame.method flow.method at.types handler =
          flow.handlers handler (subst (λ (method : Within). Contains method.body.handlers handler) (same_Some at.method flow.method (sym at.within ∙ flow.within)) among) covers_it in
          omega (
            arith,
            locals,
            at.slots,
            thrown_fits program at.method at.types handles.arrives.there handles.kind
                (typed_sized program frame.method handler.handler at.method handles.arrives.there at.within handles.arrives.before) handles.arrives.goes,
          );
    }

standing_covered : (program : Linked) (kinds : Kinds) (frame : MethodFrame) (below : List Frame) → AreStanding program kinds (OfMethod frame ∷ below) → IsCovered program kinds frame
standing_covered program kinds frame below (AreStanding.AMethod own rest stands under) =
    record { at = stands.at; locals = stands.locals; stack = stack_known stands.at.method kinds stands.at.types.stack frame.stack stands.stack }

covered_first : (program : Linked) (kinds : Kinds) (frame : MethodFrame) (below : List Frame) → AreCovered program kinds (OfMethod frame ∷ below) → IsCovered program kinds frame
covered_first program kinds frame below (AreCovered.AMethod own rest covered under) = covered

first_covered : (program : Linked) (kinds : Kinds) (pending : ℕ) (frame : MethodFrame) (below : List Frame) → AreFrames program kinds pending (OfMethod frame ∷ below)
    → IsCovered program kinds frame
first_covered program kinds pending frame below (AreFrames.Running frames standing) = standing_covered program kinds frame below standing
first_covered program kinds pending frame below (AreFrames.Unwinding serial frames is covered) = covered_first program kinds frame below covered

pub catchers_fit : (program : Linked) (state : State) (frame : MethodFrame) (below : List Frame) → IsTyped program → IsSpelled program → IsTypedState program state
    → state.roots.frames ≡ OfMethod frame ∷ below → MayCatch program frame
catchers_fit program state frame below fits spelled typed same =
    covered_frames_fit program (kinds_of state.objects) frame fits spelled
    (first_covered program (kinds_of state.objects) state.roots.pending frame below
    (subst (λ (frames : List Frame). AreFrames program (kinds_of state.objects) state.roots.pending frames) same typed.roots.frames))

-- the handler that is found
pub caught_fits : (program : Linked) (state : State) (frame : MethodFrame) (below : List Frame) (class : Option ℕ) (kind : ℕ) (handler : Handler) → IsTyped program → IsSpelled program
    → IsTypedState program state → state.roots.frames ≡ OfMethod frame ∷ below → find (takes program class frame.pc kind) (handlers_at program frame.method) ≡ Some handler
    → length frame.locals + 1 ≤ frame.slots
caught_fits program state frame below class kind handler fits spelled typed same is =
    let catches : MayCatch program frame = catchers_fit program state frame below fits spelled typed same in
    catches.room handler
    (subst (λ (handlers : List Handler). Contains handlers handler) (handled program frame.method catches.method catches.within).handlers
    (found_among (takes program class frame.pc kind) (handlers_at program frame.method) handler is))
    (and_parts (covers frame.pc handler) _ (found_passes (takes program class frame.pc kind) (handlers_at program frame.method) handler is)).0
