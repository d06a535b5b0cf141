-- Where the topmost frame goes on: at the next instruction or at a target, with what an instruction leaves of it.
use Rattle.std.proofs.Common.{◌≡◌, ◌∙◌, ap, refl, sym, subst, subst₂, ℕ, ℤ, ◌+◌, Bool, true, false, List, ◌∷◌, Option, Some, None, inl, inr, option_and_then, option_map}
use Rattle.std.specs.Prelude.{◌⊎◌}
use Rattle.std.specs.List.{Contains}
use Rattle.std.proofs.lemmas.Option.{none-some, same_Some}
use Rattle.cb_insn.specs.declared.insn.Insn.{Insn}
use Rattle.cb_link.specs.Named.{behind_in, code_at, insn_in}
use Rattle.cb_link.specs.Program.{Linked}
use Rattle.cb_machine.specs.Machine.{Machine}
use Rattle.cb_machine.specs.Plans.{Plan, leaving, made}
use Rattle.cb_machine.specs.Standing.{Now, at_place, goes_on, goes_to, leaves}
use Rattle.cb_machine.specs.Steps.{done, plan}
use Rattle.cb_plain.specs.State.{Frame, MethodFrame, OfMethod, State}
use Rattle.cb_plain.specs.Updates.{with_frames}
use Rattle.cb_plain.specs.declared.value.Value.{Value}
use Rattle.cb_shapes.specs.Shapes.{action_of}
use Rattle.cb_shapes.specs.Targets.{goes_on as falls_on, targets_of}
use Rattle.cb_shapes.specs.declared.action.Action.{Action}
use Rattle.cb_verify.specs.declared.verification_type.VerificationType.{VerificationType}
use Rattle.cb_verify.specs.Frames as verified
use Rattle.cb_verify.specs.Leaving.{left, left_with}
use Rattle.cb_verify.specs.Members.{member_at}
use Rattle.cb_verify.specs.Typed.{IsTyped, falls}
use Rattle.cb_verify.specs.Within.{Within, kind_of_throwable, within}
use Rattle.cb_safety.specs.Advancing.{Advances, HoldsOn, IsSpelled}
use Rattle.cb_safety.specs.Flows.{Arrives, CodeRises, FallsTo, Flows}
use Rattle.cb_safety.specs.Frames.{AreBelow, AreStanding, Before, Stands, result_at}
use Rattle.cb_safety.specs.Held.{HaveTypes, IsStack}
use Rattle.cb_safety.specs.Kinds.{IsOfKind, Kinds, kinds_of}
use Rattle.cb_safety.specs.States.{AreFrames, IsTypedState}
use Rattle.cb_safety.proofs.Assigned.{frame_assigned, when}
use Rattle.cb_safety.proofs.Entries.{within_method}
use Rattle.cb_safety.proofs.Flowing.{flows}
use Rattle.cb_safety.proofs.Rising.{code_rises}

-- ---- the frames of a state that runs

no_serial : {P : Type 0} (program : Linked) (kinds : Kinds) (kind : ℕ) → IsOfKind program kinds kind 0 → P
no_serial program kinds kind is = absurd (none-some is.own is.there)

pub standing_frames : (program : Linked) (kinds : Kinds) (pending : ℕ) (frames : List Frame) → AreFrames program kinds pending frames → pending ≡ 0 → AreStanding program kinds frames
standing_frames program kinds pending frames (AreFrames.Running own standing) zero = standing
standing_frames program kinds pending frames (AreFrames.Unwinding serial own is covered) zero =
    no_serial program kinds kind_of_throwable (subst (λ (own : ℕ). IsOfKind program kinds kind_of_throwable own) zero is)

pub record Topmost (program : Linked) (kinds : Kinds) (frame : MethodFrame) (below : List Frame) : Type 0 where
  pub stands : Stands program kinds frame
  pub under : AreBelow program kinds (result_at program frame.method) below

topmost_in : (program : Linked) (kinds : Kinds) (frame : MethodFrame) (below : List Frame) → AreStanding program kinds (OfMethod frame ∷ below) → Topmost program kinds frame below
topmost_in program kinds frame below (AreStanding.AMethod own others stands rest) = record { stands = stands; under = rest }

pub topmost : (program : Linked) (state : State) (frame : MethodFrame) (below : List Frame) → IsTypedState program state → state.roots.pending ≡ 0
    → state.roots.frames ≡ OfMethod frame ∷ below → Topmost program (kinds_of state.objects) frame below
topmost program state frame below typed zero same =
    topmost_in program (kinds_of state.objects) frame below
    (subst (λ (frames : List Frame). AreStanding program (kinds_of state.objects) frames) same
    (standing_frames program (kinds_of state.objects) state.roots.pending state.roots.frames typed.roots.frames zero))

-- ---- a state with the topmost frame at another place

-- a frame where it arrives
pub arrived : (program : Linked) (kinds : Kinds) (method : Within) → method.program ≡ program → HoldsOn program → (one other : verified.Frame) (held stack : List Value)
    → (one ≡ other) ⊎ (verified.frame_goes_to program one other ≡ true) → HaveTypes method kinds one.locals held → IsStack method kinds one.stack stack
    → HaveTypes method kinds other.locals held × IsStack method kinds other.stack stack
arrived program kinds method own holds one other held stack (inl same) have is =
    subst (λ (frame : verified.Frame). HaveTypes method kinds frame.locals held × IsStack method kinds frame.stack stack) same (have, is)
arrived program kinds method own holds one other held stack (inr goes) have is =
    frame_assigned method (subst HoldsOn (sym own) holds) kinds one other held stack
    (subst (λ (own : Linked). verified.frame_goes_to own one other ≡ true) (sym own) goes) have is

pub with_topmost : (program : Linked) (state : State) (frames : List Frame) → IsTypedState program state → state.roots.pending ≡ 0
    → AreStanding program (kinds_of state.objects) frames → IsTypedState program (with_frames state frames)
with_topmost program state frames typed zero standing = record {
  heap = typed.heap;
  roots = record {
    frames = subst (λ (pending : ℕ). AreFrames program (kinds_of state.objects) pending frames) (sym zero) (AreFrames.Running frames standing);
    statics = typed.roots.statics;
    classes = typed.roots.classes;
    tables = typed.roots.tables;
    argument = typed.roots.argument;
  };
  input = typed.input;
}

-- ---- what stands at an instruction

abbrev pub now_at : Machine → State → MethodFrame → List Frame → Now
now_at machine state frame below =
    record { machine = machine; frame = frame; below = below; next = behind_in (code_at machine.program frame.method) frame.pc; state = state }

-- the instruction of a frame: its types, what it leaves, and where it goes
pub record Stage (machine : Machine) (state : State) (frame : MethodFrame) (below : List Frame) (insn : Insn) (action : Action) : Type 0 where
  pub holds : HoldsOn machine.program
  pub typed : IsTypedState machine.program state
  pub runs : state.roots.pending ≡ 0
  pub under : AreBelow machine.program (kinds_of state.objects) (result_at machine.program frame.method) below
  pub method : Within
  pub within : within machine.program frame.method ≡ Some method
  pub own : method.program ≡ machine.program
  pub slots : frame.slots ≡ method.body.max_locals + method.body.max_stack
  pub types : verified.Frame
  pub locals : HaveTypes method (kinds_of state.objects) types.locals frame.locals
  pub stack : IsStack method (kinds_of state.objects) types.stack frame.stack
  pub after : verified.Frame
  pub leaves : left_with method frame.pc (member_at method frame.pc) action types ≡ Some after
  pub targets : (place : ℕ) → Contains (targets_of insn.operand) place → Arrives machine.program frame.method after place
  pub next : falls_on action ≡ true → FallsTo machine.program frame.method frame.pc after

-- a plan that is typed
pub record Planned (program : Linked) (found : Option Plan) : Type 0 where
  pub plan : Plan
  pub is : found ≡ Some plan
  pub typed : IsTypedState program (made plan)

-- a frame with another stack
pub with_stack_is : (most : ℕ) (frame : verified.Frame) (stack : List VerificationType) (after : verified.Frame) → verified.with_stack most frame stack ≡ Some after
    → ◌≡◌ {A = verified.Frame} (record { locals = frame.locals; stack = stack; unfinished = frame.unfinished }) after
with_stack_is most frame stack after so =
    same_Some (record { locals = frame.locals; stack = stack; unfinished = frame.unfinished }) after
    (when (verified.is_legal most stack) (Some (record { locals = frame.locals; stack = stack; unfinished = frame.unfinished })) after so).1

module _ (machine : Machine) (state : State) (frame : MethodFrame) (below : List Frame) (insn : Insn) (action : Action)
    (stage : Stage machine state frame below insn action) where
  -- it goes to a place where what is left arrives
  goes_typed : (place : ℕ) (held stack : List Value) → Arrives machine.program frame.method stage.after place
      → HaveTypes stage.method (kinds_of state.objects) stage.after.locals held → IsStack stage.method (kinds_of state.objects) stage.after.stack stack
      → IsTypedState machine.program (with_frames state (OfMethod (at_place frame place held stack) ∷ below))
  goes_typed place held stack arrives have is =
      let both = arrived machine.program (kinds_of state.objects) stage.method stage.own stage.holds stage.after arrives.there held stack arrives.goes have is in
      with_topmost machine.program state (OfMethod (at_place frame place held stack) ∷ below) stage.typed stage.runs
      (AreStanding.AMethod (at_place frame place held stack) below
      (record {
        at = record { method = stage.method; within = stage.within; types = arrives.there; before = arrives.before; slots = stage.slots };
        locals = both.0;
        stack = both.1;
      }) stage.under)

  pub goes_there : (place : ℕ) (held stack : List Value) → Contains (targets_of insn.operand) place
      → HaveTypes stage.method (kinds_of state.objects) stage.after.locals held → IsStack stage.method (kinds_of state.objects) stage.after.stack stack
      → Planned machine.program (Some (goes_to (now_at machine state frame below) place held stack (leaving state)))
  goes_there place held stack among have is = record {
    plan = goes_to (now_at machine state frame below) place held stack (leaving state);
    is = refl;
    typed = goes_typed place held stack (stage.targets place among) have is;
  }

  -- at the next instruction
  pub goes_next : falls_on action ≡ true → (held stack : List Value)
      → HaveTypes stage.method (kinds_of state.objects) stage.after.locals held → IsStack stage.method (kinds_of state.objects) stage.after.stack stack
      → Planned machine.program (goes_on (now_at machine state frame below) held stack (leaving state))
  goes_next falling held stack have is =
      let next = stage.next falling in
      record {
        plan = goes_to (now_at machine state frame below) next.place held stack (leaving state);
        is = ap (option_map (λ (place : ℕ). goes_to (now_at machine state frame below) place held stack (leaving state))) next.behind;
        typed = goes_typed next.place held stack next.arrives have is;
      }

  -- with the same local variables, where only the stack changes
  pub lays_next : falls_on action ≡ true → (types : List VerificationType) (stack : List Value)
      → verified.with_stack stage.method.body.max_stack stage.types types ≡ Some stage.after → IsStack stage.method (kinds_of state.objects) types stack
      → Planned machine.program (leaves (now_at machine state frame below) stack)
  lays_next falling types stack so is =
      let same = with_stack_is stage.method.body.max_stack stage.types types stage.after so in
      goes_next falling frame.locals stack (subst (λ (own : verified.Frame). HaveTypes stage.method (kinds_of state.objects) own.locals frame.locals) same stage.locals)
      (subst (λ (own : verified.Frame). IsStack stage.method (kinds_of state.objects) own.stack stack) same is)

pub planned_by : (program : Linked) (found other : Option Plan) → found ≡ other → Planned program other → Planned program found
planned_by program found other same planned = record { plan = planned.plan; is = same ∙ planned.is; typed = planned.typed }

-- ---- the stage of a typed state

abbrev falling_of : Option Action → Bool
falling_of None = false
falling_of (Some action) = falls_on action

pub spelled_rise : (program : Linked) → IsSpelled program → CodeRises program
spelled_rise program spelled number = let (bytes, spells) = spelled number in code_rises (code_at program number) bytes spells

pub stage_of : (machine : Machine) (state : State) (frame : MethodFrame) (below : List Frame) (insn : Insn) (action : Action)
    → IsTyped machine.program → IsSpelled machine.program → HoldsOn machine.program → IsTypedState machine.program state
    → state.roots.pending ≡ 0 → state.roots.frames ≡ OfMethod frame ∷ below
    → insn_in (code_at machine.program frame.method) frame.pc ≡ Some insn → action_of insn ≡ Some action → Stage machine state frame below insn action
stage_of machine state frame below insn action fits spelled holds typed zero frames there so = record {
  holds = holds;
  typed = typed;
  runs = zero;
  under = top.under;
  method = at.method;
  within = at.within;
  own = (within_method machine.program frame.method at.method at.within).own;
  slots = at.slots;
  types = at.types;
  locals = top.stands.locals;
  stack = top.stands.stack;
  after = flow.after;
  leaves = sym (ap (option_and_then (λ (action : Action). left_with at.method frame.pc (member_at at.method frame.pc) action at.types)) so)
      ∙ subst₂ (λ (method : Within) (insn : Insn). left method frame.pc insn at.types ≡ Some flow.after) method_is insn_is flow.leaves;
  targets = λ place among. flow.targets place (subst (λ (own : Insn). Contains (targets_of own.operand) place) (sym insn_is) among);
  next = λ falling. flow.next (ap falls insn_is ∙ ap falling_of so ∙ falling);
}
  where
    top : Topmost machine.program (kinds_of state.objects) frame below
    top = topmost machine.program state frame below typed zero frames

    at : Before machine.program frame
    at = top.stands.at

    flow : Flows machine.program frame.method frame.pc at.types
    flow = flows machine.program frame.method frame.pc at.types fits (spelled_rise machine.program spelled) at.before

    method_is : flow.method ≡ at.method
    method_is = same_Some flow.method at.method (sym flow.within ∙ at.within)

    insn_is : flow.insn ≡ insn
    insn_is = same_Some flow.insn insn (sym flow.there ∙ there)

-- ---- what a state that runs plans

abbrev executing : Machine → State → MethodFrame → List Frame → Option Plan
executing machine state frame below =
    option_and_then (λ (insn : Insn). option_and_then (done (now_at machine state frame below) insn.operand) (action_of insn))
    (insn_in (code_at machine.program frame.method) frame.pc)

abbrev with_all : State → List Frame → ℕ → Option ℤ → State
with_all state frames pending exit = record {
  roots = record {
    frames = frames;
    pending = pending;
    statics = state.roots.statics;
    classes = state.roots.classes;
    tables = state.roots.tables;
    argument = state.roots.argument;
  };
  objects = state.objects;
  input = state.input;
  printed = state.printed;
  exit = exit;
}

abbrev Runs : Machine → MethodFrame → List Frame → State → Type 0
Runs machine frame below state = plan machine state ≡ executing machine state frame below

runs_with : (machine : Machine) (state : State) (frame : MethodFrame) (below : List Frame) → Runs machine frame below (with_all state (OfMethod frame ∷ below) 0 None)
runs_with machine state frame below = refl

pub running : (machine : Machine) (state : State) (frame : MethodFrame) (below : List Frame) (insn : Insn) (action : Action)
    → state.exit ≡ None → state.roots.pending ≡ 0 → state.roots.frames ≡ OfMethod frame ∷ below
    → insn_in (code_at machine.program frame.method) frame.pc ≡ Some insn → action_of insn ≡ Some action
    → plan machine state ≡ done (now_at machine state frame below) insn.operand action
running machine state frame below insn action none zero frames there so =
    subst (Runs machine frame below) (sym same) (runs_with machine state frame below)
    ∙ ap (option_and_then (λ (insn : Insn). option_and_then (done (now_at machine state frame below) insn.operand) (action_of insn))) there
    ∙ ap (option_and_then (done (now_at machine state frame below) insn.operand)) so
  where
    same : state ≡ with_all state (OfMethod frame ∷ below) 0 None
    same =
        ap (λ (exit : Option ℤ). with_all state state.roots.frames state.roots.pending exit) none
        ∙ ap (λ (pending : ℕ). with_all state state.roots.frames pending None) zero
        ∙ ap (λ (frames : List Frame). with_all state frames 0 None) frames

pub advances_by : (machine : Machine) (state : State) (found : Option Plan) → plan machine state ≡ found → Planned machine.program found → Advances machine state
advances_by machine state found same planned = record { plan = planned.plan; is = same ∙ planned.is; typed = planned.typed }
