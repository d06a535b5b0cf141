-- Where the topmost frame goes on with other roots, and with more objects behind the others.
use Rattle.std.proofs.Common.{◌≡◌, ap, sym, subst, ℕ, true, List, ◌∷◌, ◌++◌, map, Option, Some, option_map}
use Rattle.std.specs.List.{AllByRecursion, fold}
use Rattle.cb_insn.specs.declared.insn.Insn.{Insn}
use Rattle.cb_link.specs.Program.{Linked}
use Rattle.cb_machine.specs.Machine.{Machine, kind_of_site}
use Rattle.cb_machine.specs.Plans.{Placing, Plan, made, objects_of}
use Rattle.cb_machine.specs.Sites as sites
use Rattle.cb_machine.specs.Standing.{at_place, goes_on, goes_to, leaves_with}
use Rattle.cb_plain.specs.State.{Frame, MethodFrame, Object, OfMethod, Roots, State}
use Rattle.cb_plain.specs.Updates.{with_roots}
use Rattle.cb_plain.specs.declared.value.Value.{Value}
use Rattle.cb_shapes.specs.Targets.{goes_on as falls_on}
use Rattle.cb_shapes.specs.declared.action.Action.{Action}
use Rattle.cb_verify.specs.declared.verification_type.VerificationType.{VerificationType}
use Rattle.cb_verify.specs.Frames as verified
use Rattle.cb_safety.specs.Flows.{Arrives}
use Rattle.cb_safety.specs.Frames.{AreStanding}
use Rattle.cb_safety.specs.Heap.{IsObject}
use Rattle.cb_safety.specs.Held.{HaveTypes, IsStack}
use Rattle.cb_safety.specs.Kinds.{Kinds, kinds_of}
use Rattle.cb_safety.specs.States.{AreFrames, AreRoots, IsTypedState}
use Rattle.cb_safety.proofs.Extended.{are_below_more, are_statics_more, are_tables_more, have_types_more, refers_more}
use Rattle.cb_safety.proofs.Going.{Planned, Stage, arrived, now_at, with_stack_is}
use Rattle.cb_safety.proofs.Growing.{heap_grown, kinds_grown, kinds_placed}

-- what placings put behind objects
abbrev pub put : List (Option Object) → Placing → List (Option Object)
put objects placing = objects ++ map Some (objects_of placing)

abbrev with_frames_in : Roots → List Frame → Roots
with_frames_in roots frames = record {
  frames = frames;
  pending = roots.pending;
  statics = roots.statics;
  classes = roots.classes;
  tables = roots.tables;
  argument = roots.argument;
}

-- roots stay typed with more objects, and with frames that stand then
roots_more : (program : Linked) (kinds more : Kinds) (roots : Roots) (frames : List Frame) → AreRoots program kinds roots → roots.pending ≡ 0
    → AreStanding program (kinds ++ more) frames → AreRoots program (kinds ++ more) (with_frames_in roots frames)
roots_more program kinds more roots frames are zero standing = record {
  frames = subst (λ (pending : ℕ). AreFrames program (kinds ++ more) pending frames) (sym zero) (AreFrames.Running frames standing);
  statics = are_statics_more program kinds more roots.statics are.statics;
  classes = are.classes;
  tables = are_tables_more program kinds more roots.tables are.tables;
  argument = refers_more program kinds more (kind_of_site program sites.arguments) roots.argument are.argument;
}

-- a state with these roots and so many objects more
abbrev pub grown_state : State → Roots → List (Option Object) → State
grown_state state roots objects = record { roots = roots; objects = objects; input = state.input; printed = state.printed; exit = state.exit }

pub grown_typed : (program : Linked) (state : State) (roots : Roots) (more : List Object) → IsTypedState program state
    → AllByRecursion (IsObject program (kinds_of state.objects ++ kinds_placed more)) more → AreRoots program (kinds_of state.objects ++ kinds_placed more) roots
    → IsTypedState program (grown_state state roots (state.objects ++ map Some more))
grown_typed program state roots more typed all are = record {
  heap = heap_grown program state.objects more typed.heap all;
  roots = subst (λ (kinds : Kinds). AreRoots program kinds roots) (sym (kinds_grown state.objects more)) are;
  input = typed.input;
}

module _ (machine : Machine) (state : State) (frame : MethodFrame) (below : List Frame) (insn : Insn) (action : Action)
    (stage : Stage machine state frame below insn action) (roots : Roots) (are : AreRoots machine.program (kinds_of state.objects) roots) (zero : roots.pending ≡ 0)
    (placed : List Placing) (next : ℕ) (more : List Object) (puts : fold put state.objects placed ≡ state.objects ++ map Some more)
    (all : AllByRecursion (IsObject machine.program (kinds_of state.objects ++ kinds_placed more)) more) where
  abbrev grown : Kinds
  grown = kinds_of state.objects ++ kinds_placed more

  abbrev own_plan : Plan
  own_plan = record { placed = placed; next = next; left = with_roots state roots }

  more_typed : (place : ℕ) (held stack : List Value) → Arrives machine.program frame.method stage.after place
      → HaveTypes stage.method grown stage.after.locals held → IsStack stage.method grown stage.after.stack stack
      → IsTypedState machine.program (made (goes_to (now_at machine state frame below) place held stack own_plan))
  more_typed place held stack arrives have is =
      let both = arrived machine.program grown stage.method stage.own stage.holds stage.after arrives.there held stack arrives.goes have is in
      let frames : List Frame = OfMethod (at_place frame place held stack) ∷ below in
      subst (λ (objects : List (Option Object)). IsTypedState machine.program (grown_state state (with_frames_in roots frames) objects)) (sym puts)
      (grown_typed machine.program state (with_frames_in roots frames) more stage.typed all
      (roots_more machine.program (kinds_of state.objects) (kinds_placed more) roots frames are zero
      (AreStanding.AMethod (at_place frame place held stack) below
      (record {
        at = record { method = stage.method; within = stage.within; types = arrives.there; before = arrives.before; slots = stage.slots };
        locals = both.0;
        stack = both.1;
      }) (are_below_more machine.program (kinds_of state.objects) (kinds_placed more) _ below stage.under))))

  -- at the next instruction
  pub goes_more : falls_on action ≡ true → (held stack : List Value)
      → HaveTypes stage.method grown stage.after.locals held → IsStack stage.method grown stage.after.stack stack
      → Planned machine.program (goes_on (now_at machine state frame below) held stack own_plan)
  goes_more falling held stack have is =
      let next = stage.next falling in
      record {
        plan = goes_to (now_at machine state frame below) next.place held stack own_plan;
        is = ap (option_map (λ (place : ℕ). goes_to (now_at machine state frame below) place held stack own_plan)) next.behind;
        typed = more_typed next.place held stack next.arrives have is;
      }

  -- with the same local variables, where only the stack changes
  pub lays_more : falls_on action ≡ true → (types : List VerificationType) (stack : List Value)
      → verified.with_stack stage.method.body.max_stack stage.types types ≡ Some stage.after → IsStack stage.method grown types stack
      → Planned machine.program (leaves_with (now_at machine state frame below) stack own_plan)
  lays_more falling types stack so is =
      let same = with_stack_is stage.method.body.max_stack stage.types types stage.after so in
      goes_more falling frame.locals stack
      (subst (λ (own : verified.Frame). HaveTypes stage.method grown own.locals frame.locals) same
      (have_types_more stage.method (kinds_of state.objects) (kinds_placed more) stage.types.locals frame.locals stage.locals))
      (subst (λ (own : verified.Frame). IsStack stage.method grown own.stack stack) same is)
