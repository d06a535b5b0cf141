-- Instructions that ask for an object: it is null, or it is there.
use Rattle.std.proofs.Common.{◌≡◌, ap, arith, refl, sym, subst, ℕ, zero, suc, true, List, [], ◌∷◌, Option, Some, None, option_and_then, slice_get}
use Rattle.std.specs.List.{Contains}
use Rattle.cb_insn.specs.declared.insn.Insn.{Insn}
use Rattle.cb_kinds.specs.declared.basic.Basic.{Basic}
use Rattle.cb_link.specs.Program.{Linked}
use Rattle.cb_machine.specs.Arrays.{with_element, with_object}
use Rattle.cb_machine.specs.Machine.{Machine}
use Rattle.cb_machine.specs.Plans.{Plan}
use Rattle.cb_machine.specs.Sites.{null_pointer}
use Rattle.cb_machine.specs.Standing.{Now}
use Rattle.cb_machine.specs.Throwing.{throws}
use Rattle.cb_plain.specs.State.{Content, Frame, MethodFrame, Object, State}
use Rattle.cb_plain.specs.Updates.{kept, object_at, object_in, with_contents_at}
use Rattle.cb_plain.specs.declared.value.Value.{Value}
use Rattle.cb_shapes.specs.Targets.{goes_on as falls_on}
use Rattle.cb_shapes.specs.declared.action.Action.{Action}
use Rattle.cb_verify.specs.declared.verification_type.VerificationType.{VerificationType}
use Rattle.cb_verify.specs.Frames as verified
use Rattle.cb_safety.specs.Frames.{AreBelow, result_at}
use Rattle.cb_safety.specs.Heap.{IsHeap, IsObject}
use Rattle.cb_safety.specs.Held.{HasContent, HaveTypes, IsStack}
use Rattle.cb_safety.specs.Kinds.{IsOfKind, Kinds, Refers, holds_kind, kind_in, kinds_of, known}
use Rattle.cb_safety.specs.States.{IsTypedState}
use Rattle.cb_safety.specs.Throwing.{AreThrown, thrown_sites}
use Rattle.cb_safety.proofs.Assigned.{never}
use Rattle.cb_safety.proofs.Changed.{MayHold, kinds_set, state_set}
use Rattle.cb_safety.proofs.Going.{Planned, Stage, lays_next, now_at, planned_by}
use Rattle.cb_safety.proofs.Throwing.{throws_typed}
use Rattle.std.specs.List.{slice_set}

-- ---- the object of a serial

pub record IsAt (objects : List (Option Object)) (serial own : ℕ) : Type 0 where
  pub object : Object
  pub there : object_in objects serial ≡ Some object
  pub is : object.kind ≡ own

at_place : (objects : List (Option Object)) (place own : ℕ) → known (slice_get (kinds_of objects) place) ≡ Some own
    → (object : Object) × ((kept (slice_get objects place) ≡ Some object) × (object.kind ≡ own))
at_place [] place own is = never is
at_place (None ∷ objects) zero own is = never is
at_place (Some object ∷ objects) zero own is = (object, (refl, cc is))
at_place (entry ∷ objects) (suc place) own is = at_place objects place own is

pub is_at : (objects : List (Option Object)) (serial own : ℕ) → kind_in (kinds_of objects) serial ≡ Some own → IsAt objects serial own
is_at objects zero own is = never is
is_at objects (suc place) own is = let found = at_place objects place own is in record { object = found.0; there = found.1.0; is = found.1.1 }

-- an object that may be held as a kind
pub record Found (program : Linked) (objects : List (Option Object)) (kind serial : ℕ) : Type 0 where
  pub object : Object
  pub there : object_in objects serial ≡ Some object
  pub is : IsObject program (kinds_of objects) object
  pub goes : holds_kind program object.kind kind ≡ true

pub found : (program : Linked) (objects : List (Option Object)) (kind serial : ℕ) → IsHeap program objects → IsOfKind program (kinds_of objects) kind serial
    → Found program objects kind serial
found program objects kind serial heap is =
    let at = is_at objects serial is.own is.there in
    record {
      object = at.object;
      there = at.there;
      is = heap.each serial at.object at.there;
      goes = subst (λ (own : ℕ). holds_kind program own kind ≡ true) (sym at.is) is.goes;
    }

module _ (machine : Machine) (state : State) (frame : MethodFrame) (below : List Frame) (insn : Insn) (action : Action)
    (stage : Stage machine state frame below insn action) where
  abbrev here : Now
  here = now_at machine state frame below

  abbrev kinds : Kinds
  kinds = kinds_of state.objects

  -- an exception of the machine
  pub throws_next : AreThrown machine.program → (site : ℕ) → Contains thrown_sites site → Planned machine.program (Some (throws machine state site))
  throws_next thrown site among =
      record { plan = throws machine state site; is = refl; typed = throws_typed machine state site stage.typed (thrown site among) }

  -- null, or an object
  pub null_next : AreThrown machine.program → (go : Object → Option Plan) → Planned machine.program (with_object here 0 go)
  null_next thrown go = throws_next thrown null_pointer (0, omega arith, refl)

  abbrev Follows : (Object → Option Plan) → ℕ → ℕ → Type 0
  Follows go kind serial = (object : Object) → object_at state serial ≡ Some object → IsObject machine.program kinds object
      → holds_kind machine.program object.kind kind ≡ true → Planned machine.program (go object)

  there_next : (go : Object → Option Plan) (kind serial : ℕ) → IsOfKind machine.program kinds kind serial → Follows go kind serial → Planned machine.program (with_object here serial go)
  there_next go kind zero is follows = never is.there
  there_next go kind (suc place) is follows =
      let own = found machine.program state.objects kind (suc place) stage.typed.heap is in
      planned_by machine.program (with_object here (suc place) go) (go own.object) (ap (option_and_then go) own.there)
      (follows own.object own.there own.is own.goes)

  pub object_next : AreThrown machine.program → (go : Object → Option Plan) (kind serial : ℕ) → Refers machine.program kinds kind serial → Follows go kind serial
      → Planned machine.program (with_object here serial go)
  object_next thrown go kind serial Refers.ToNull follows = null_next thrown go
  object_next thrown go kind serial (Refers.To own is) follows = there_next go kind own is follows

  -- what stands at the instruction in a state of other objects of the same kinds
  stage_with : (left : State) → IsTypedState machine.program left → left.roots.pending ≡ 0 → kinds_of left.objects ≡ kinds → Stage machine left frame below insn action
  stage_with left typed runs same = record {
    holds = stage.holds;
    typed = typed;
    runs = runs;
    under = subst (λ (kinds : Kinds). AreBelow machine.program kinds (result_at machine.program frame.method) below) (sym same) stage.under;
    method = stage.method;
    within = stage.within;
    own = stage.own;
    slots = stage.slots;
    types = stage.types;
    locals = subst (λ (kinds : Kinds). HaveTypes stage.method kinds stage.types.locals frame.locals) (sym same) stage.locals;
    stack = subst (λ (kinds : Kinds). IsStack stage.method kinds stage.types.stack frame.stack) (sym same) stage.stack;
    after = stage.after;
    leaves = stage.leaves;
    targets = stage.targets;
    next = stage.next;
  }

  -- a word of an object is set
  pub sets_next : falls_on action ≡ true → (types : List VerificationType) (stack : List Value) → verified.with_stack stage.method.body.max_stack stage.types types ≡ Some stage.after
      → IsStack stage.method kinds types stack → (serial : ℕ) (object : Object) (place : ℕ) (content : Content) (basic : Basic) → object_at state serial ≡ Some object
      → MayHold machine.program object.kind place basic → HasContent machine.program kinds basic content
      → Planned machine.program (with_element here serial object place content stack)
  unfolding stage_with
  sets_next falling types stack so is serial object place content basic there may fits =
      let left : State = with_contents_at state serial (slice_set object.contents place content) in
      let same : kinds_of left.objects ≡ kinds = kinds_set state.objects serial (slice_set object.contents place content) in
      lays_next machine left frame below insn action
      (stage_with left (state_set machine.program state serial object place content basic stage.typed there may fits) stage.runs same) falling types stack so
      (subst (λ (kinds : Kinds). IsStack stage.method kinds types stack) (sym same) is)
