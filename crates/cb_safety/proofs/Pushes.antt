-- Room for what an instruction lays on the stack of a typed state.
use Rattle.std.proofs.Common.{◌≡◌, ◌∙◌, ap, ap₂, arith, refl, sym, subst, ℕ, ◌≤◌, ◌&&◌, true, not, List, [], ◌∷◌, length, Option, Some, None, option_and_then, option_map, if◌then◌else◌}
use Rattle.std.specs.List.{list_any}
use Rattle.std.proofs.lemmas.Bool.{false≢true, leb-true}
use Rattle.std.proofs.lemmas.Option.{option_and_then_some, same_Some}
use Rattle.cb_hierarchy.specs.Classes.{listed}
use Rattle.cb_insn.specs.declared.insn.Insn.{Insn}
use Rattle.cb_kinds.specs.declared.basic.Basic.{Basic}
use Rattle.cb_link.specs.Named.{code_at, insn_in, named}
use Rattle.cb_link.specs.Program.{Linked}
use Rattle.cb_machine.specs.Machine.{Machine}
use Rattle.cb_plain.specs.State.{Frame, MethodFrame, OfMethod, State}
use Rattle.cb_shapes.specs.Shapes.{action_of}
use Rattle.cb_shapes.specs.Shuffles.{shuffled}
use Rattle.cb_shapes.specs.declared.action.Action.{Action}
use Rattle.cb_shapes.specs.declared.action.Action.TheVariants as actions
use Rattle.cb_shapes.specs.declared.computation.Computation.TheVariants as computations
use Rattle.cb_shapes.specs.declared.shuffle.Shuffle.{Shuffle}
use Rattle.cb_shapes.specs.declared.sort.Sort.{Sort}
use Rattle.cb_verify.specs.declared.verification_type.VerificationType.{VerificationType}
use Rattle.cb_verify.specs.declared.verification_type.VerificationType.TheVariants as types
use Rattle.cb_verify.specs.Calls.{exchanged, put_on}
use Rattle.cb_verify.specs.Frames as verified
use Rattle.cb_verify.specs.Leaving.{left_with, makes_object}
use Rattle.cb_verify.specs.Members.{Member, given_types, member_at, member_of}
use Rattle.cb_verify.specs.Rules.{constant_type}
use Rattle.cb_verify.specs.Typed.{IsTyped}
use Rattle.cb_verify.specs.Types.{category, is_of, type_of}
use Rattle.cb_verify.specs.Within.{Within, result_of}
use Rattle.cb_safety.specs.Advancing.{HoldsOn, IsSpelled}
use Rattle.cb_safety.specs.Frames.{result_at}
use Rattle.cb_safety.specs.Kinds.{kinds_of}
use Rattle.cb_safety.specs.Ready.{NamesStatic, NamesStatics, is_of_statics}
use Rattle.cb_safety.specs.Room.{HasRoom, ShufflesWithin}
use Rattle.cb_machine.specs.Growing.{lays_one}
use Rattle.cb_safety.specs.States.{IsTypedState}
use Rattle.cb_safety.proofs.Assigned.{never, when}
use Rattle.cb_safety.proofs.Fields.{field_member, within_number}
use Rattle.cb_safety.proofs.Going.{Stage, stage_of}
use Rattle.cb_safety.proofs.Rooms.{callers_fit, few_values, frames_fit, type_words}
use Rattle.cb_safety.proofs.Shuffled.{shuffled_typed}
use Rattle.cb_safety.proofs.Taken.{stack_height}

-- a type more lies on the stack, and there are no more words than there may be
record LaysType (method : Within) (stack : List VerificationType) : Type 0 where
  pub type : VerificationType
  pub low : verified.height (type ∷ stack) ≤ method.body.max_stack

lays_type : (method : Within) (frame after : verified.Frame) (type : VerificationType) (stack : List VerificationType)
    → verified.with_stack method.body.max_stack frame (type ∷ stack) ≡ Some after → LaysType method stack
lays_type method frame after type stack is = record {
  type = type;
  low = leb-true (verified.height (type ∷ stack)) method.body.max_stack
      (when (verified.is_legal method.body.max_stack (type ∷ stack)) (Some (record { locals = frame.locals; stack = type ∷ stack; unfinished = frame.unfinished })) after is).0;
}

module _ (method : Within) (pc : ℕ) (frame after : verified.Frame) where
  abbrev lays_given : List VerificationType → Option VerificationType → Option verified.Frame
  lays_given rest type = put_on method frame (listed type) rest

  constant_laid : (found : Option VerificationType) → option_and_then (lays_given frame.stack) (option_map Some found) ≡ Some after → LaysType method frame.stack
  constant_laid None is = never is
  constant_laid (Some type) is = lays_type method frame after type frame.stack is

  lays_one_type : (member : Member) (action : Action) → ((index : ℕ) → action ≡ actions.GetStatic index → (basic : Basic) × (member ≡ field_member (Some basic)))
      → left_with method pc member action frame ≡ Some after → lays_one action ≡ true → LaysType method frame.stack
  lays_one_type member (actions.Compute (computations.IntConstant number)) names is lays = lays_type method frame after types.Int frame.stack is
  lays_one_type member (actions.Compute (computations.LongConstant number)) names is lays = lays_type method frame after types.Long frame.stack is
  lays_one_type member (actions.Compute other) names is lays = absurd (false≢true lays)
  lays_one_type member actions.Null names is lays = lays_type method frame after types.Null frame.stack is
  lays_one_type member (actions.Constant index) names is lays = constant_laid (constant_type (named method.program method.number pc)) is
  lays_one_type member (actions.Load sort local) names is lays =
      option_and_then_some (λ (type : VerificationType). put_on method frame (type ∷ []) frame.stack) (verified.loaded sort local frame) after is
      (λ type had so. lays_type method frame after type frame.stack so)
  lays_one_type member (actions.GetStatic index) names is lays =
      let own = names index refl in
      lays_type method frame after (type_of own.0) frame.stack (subst (λ (member : Member). exchanged method frame (given_types member) [] ≡ Some after) own.1 is)
  lays_one_type member (actions.New index) names is lays =
      let changed : verified.Frame = verified.with_locals frame (verified.replaced (types.New pc) types.Top frame.locals) in
      lays_type method changed after (types.New pc) frame.stack
      (when (makes_object method index && not (list_any (verified.is_same (types.New pc)) frame.stack)) (put_on method changed (types.New pc ∷ []) frame.stack) after is).1
  lays_one_type member other names is lays = absurd (false≢true lays)

-- ---- in a typed state

static_member : (machine : Machine) (state : State) (frame : MethodFrame) (below : List Frame) (insn : Insn) (action : Action) (stage : Stage machine state frame below insn action)
    (names : NamesStatic machine.program frame.method frame.pc) → member_at stage.method frame.pc ≡ field_member (Some names.basic)
static_member machine state frame below insn action stage names =
    ap₂ (λ (program : Linked) (number : ℕ). member_of program (named program number frame.pc)) stage.own (within_number machine.program frame.method stage.method stage.within)
    ∙ ap (member_of machine.program) names.names ∙ ap field_member names.declared

staged_locals : (machine : Machine) (state : State) (frame : MethodFrame) (below : List Frame) (insn : Insn) (action : Action) (stage : Stage machine state frame below insn action)
    → HasRoom machine.program frame 0 → length frame.locals ≡ stage.method.body.max_locals
staged_locals machine state frame below insn action stage room =
    room.locals ∙ ap (λ (method : Within). method.body.max_locals) (same_Some room.method stage.method (sym room.within ∙ stage.within))

pub pushes_fit : (machine : Machine) (state : State) (frame : MethodFrame) (below : List Frame) (insn : Insn) (action : Action)
    → IsTyped machine.program → IsSpelled machine.program → HoldsOn machine.program → NamesStatics machine.program → IsTypedState machine.program state
    → state.roots.pending ≡ 0 → state.roots.frames ≡ OfMethod frame ∷ below → insn_in (code_at machine.program frame.method) frame.pc ≡ Some insn
    → action_of insn ≡ Some action → lays_one action ≡ true → HasRoom machine.program frame 1
pushes_fit machine state frame below insn action fits spelled holds statics typed runs frames there so lays =
    let stage : Stage machine state frame below insn action = stage_of machine state frame below insn action fits spelled holds typed runs frames there so in
    let locals : length frame.locals ≡ stage.method.body.max_locals =
    staged_locals machine state frame below insn action stage (frames_fit machine.program state frame below typed runs frames) in
    let laid : LaysType stage.method stage.types.stack = lays_one_type stage.method frame.pc stage.types stage.after (member_at stage.method frame.pc) action
    (λ index same.
    let names : NamesStatic machine.program frame.method frame.pc = statics frame.method frame.pc stage.method insn action stage.within there so (ap is_of_statics same) in
    (names.basic, static_member machine state frame below insn action stage names)) stage.leaves lays in
    record {
      method = stage.method;
      within = stage.within;
      locals = locals;
      slots = stage.slots;
      room = omega (
        arith,
        locals,
        stage.slots,
        few_values frame.stack,
        stack_height stage.method (kinds_of state.objects) stage.types.stack frame.stack stage.stack,
        type_words laid.type,
        laid.low,
      );
    }

pub shuffles_fit : (machine : Machine) (state : State) (frame : MethodFrame) (below : List Frame) (insn : Insn) (shuffle : Shuffle)
    → IsTyped machine.program → IsSpelled machine.program → HoldsOn machine.program → IsTypedState machine.program state
    → state.roots.pending ≡ 0 → state.roots.frames ≡ OfMethod frame ∷ below → insn_in (code_at machine.program frame.method) frame.pc ≡ Some insn
    → action_of insn ≡ Some (actions.Shuffle shuffle) → ShufflesWithin frame shuffle
shuffles_fit machine state frame below insn shuffle fits spelled holds typed runs frames there so =
    let stage : Stage machine state frame below insn (actions.Shuffle shuffle) = stage_of machine state frame below insn (actions.Shuffle shuffle) fits spelled holds typed runs frames there so in
    let locals : length frame.locals ≡ stage.method.body.max_locals =
    staged_locals machine state frame below insn (actions.Shuffle shuffle) stage (frames_fit machine.program state frame below typed runs frames) in
    option_and_then_some (verified.with_stack stage.method.body.max_stack stage.types) (shuffled category shuffle stage.types.stack) stage.after stage.leaves
    (λ stack found leaves.
    let own = shuffled_typed stage.method (kinds_of state.objects) shuffle stage.types.stack frame.stack stack stage.stack found in
    let legal : verified.height stack ≤ stage.method.body.max_stack =
    leb-true (verified.height stack) stage.method.body.max_stack
    (when (verified.is_legal stage.method.body.max_stack stack) (Some (record { locals = stage.types.locals; stack = stack; unfinished = stage.types.unfinished })) stage.after leaves).0 in
    record {
      stack = own.left;
      shuffled = own.there;
      room = omega (arith, locals, stage.slots, few_values own.left, stack_height stage.method (kinds_of state.objects) stack own.left own.typed, legal);
    })

-- a return with a value gives it to the method that waits
gives_result : (method : Within) (sort : Sort) (frame after : verified.Frame) (found : Option Basic)
    → option_and_then (λ (result : Basic). if is_of sort (type_of result) then exchanged method frame [] (type_of result ∷ []) else None) found ≡ Some after → 1 ≤ length (listed found)
gives_result method sort frame after None is = never is
gives_result method sort frame after (Some basic) is = omega arith

pub returns_fit : (machine : Machine) (state : State) (frame caller : MethodFrame) (below : List Frame) (insn : Insn) (sort : Sort)
    → IsTyped machine.program → IsSpelled machine.program → HoldsOn machine.program → IsTypedState machine.program state
    → state.roots.pending ≡ 0 → state.roots.frames ≡ OfMethod frame ∷ OfMethod caller ∷ below → insn_in (code_at machine.program frame.method) frame.pc ≡ Some insn
    → action_of insn ≡ Some (actions.Return (Some sort)) → HasRoom machine.program caller 1
returns_fit machine state frame caller below insn sort fits spelled holds typed runs frames there so =
    let action : Action = actions.Return (Some sort) in
    let stage : Stage machine state frame (OfMethod caller ∷ below) insn action =
    stage_of machine state frame (OfMethod caller ∷ below) insn action fits spelled holds typed runs frames there so in
    let room : HasRoom machine.program caller (length (listed (result_at machine.program frame.method))) = callers_fit machine.program state frame caller below typed frames in
    let result : result_of stage.method ≡ result_at machine.program frame.method =
    ap₂ (λ (program : Linked) (number : ℕ). result_at program number) stage.own (within_number machine.program frame.method stage.method stage.within) in
    let gives : 1 ≤ length (listed (result_of stage.method)) = gives_result stage.method sort stage.types stage.after (result_of stage.method) stage.leaves in
    record {
      method = room.method;
      within = room.within;
      locals = room.locals;
      slots = room.slots;
      room = omega (arith, room.room, gives, ap (λ (found : Option Basic). length (listed found)) result);
    }
