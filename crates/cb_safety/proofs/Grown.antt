-- Plans that place more objects behind those of a typed state that runs, and go on at the next instruction.
use Rattle.std.proofs.Common.{◌≡◌, ◌∙◌, ap, arith, sym, subst, ℕ, zero, suc, ◌+◌, true, List, [], ◌∷◌, ◌++◌, append_assoc, append-nil, length, map, Option, Some, option_map, slice_get}
use Rattle.std.proofs.lemmas.List.{length-append}
use Rattle.std.proofs.lemmas.List.Sums.{fold_push}
use Rattle.cb_insn.specs.declared.insn.Insn.{Insn}
use Rattle.cb_link.specs.Numbers.{or_none}
use Rattle.cb_link.specs.Program.{Linked}
use Rattle.cb_machine.specs.Machine.{Machine, kind_of_site, listed}
use Rattle.cb_machine.specs.Plans.{One, Plan, leaving, made, object_of, with_left, with_one}
use Rattle.cb_machine.specs.Sites.{constant_characters, constant_strings}
use Rattle.cb_machine.specs.Standing.{at_place, goes_to, leaves_with}
use Rattle.cb_machine.specs.Strings.{Placed, constant_string, with_string}
use Rattle.cb_plain.specs.State.{Content, Frame, MethodFrame, Object, OfMethod, State}
use Rattle.cb_plain.specs.Updates.{with_entry}
use Rattle.cb_plain.specs.declared.table.Table.TheVariants as tables
use Rattle.cb_plain.specs.declared.value.Value.{Value}
use Rattle.cb_shapes.specs.Targets.{goes_on as falls_on}
use Rattle.cb_shapes.specs.declared.action.Action.{Action}
use Rattle.cb_verify.specs.declared.verification_type.VerificationType.{VerificationType}
use Rattle.cb_verify.specs.Frames as verified
use Rattle.cb_safety.specs.Flows.{Arrives}
use Rattle.cb_safety.specs.Frames.{AreStanding}
use Rattle.cb_safety.specs.Heap.{IsObject}
use Rattle.cb_safety.specs.Held.{HaveTypes, IsStack}
use Rattle.cb_safety.specs.Kinds.{Kinds, kinds_of}
use Rattle.cb_safety.specs.States.{AreFrames, IsTypedState}
use Rattle.cb_safety.proofs.Enlarged.{grown_state, grown_typed, put}
use Rattle.cb_safety.proofs.Extended.{are_below_more, have_types_more}
use Rattle.cb_safety.proofs.Going.{Planned, Stage, arrived, now_at, with_stack_is}
use Rattle.cb_safety.proofs.Growing.{kinds_grown}
use Rattle.cb_safety.proofs.StringsMade.{IsGood, are_roots_more, objects_in}

-- ---- one object more

pub one_put : (plan : Plan) (site kind : ℕ) (contents : List Content)
    → objects_in (with_one plan site kind contents) ≡ objects_in plan ++ map Some (object_of site kind contents ∷ [])
one_put plan site kind contents = fold_push put plan.left.objects plan.placed (One site kind contents)

pub good_one : (program : Linked) (plan : Plan) (site kind : ℕ) (contents : List Content) → IsGood program plan
    → IsObject program (kinds_of (objects_in plan) ++ Some kind ∷ []) (object_of site kind contents) → IsGood program (with_one plan site kind contents)
good_one program plan site kind contents good is = record {
  typed = subst (λ (objects : List (Option Object)). IsTypedState program (grown_state plan.left plan.left.roots objects)) (sym (one_put plan site kind contents))
      (grown_typed program (made plan) plan.left.roots (object_of site kind contents ∷ []) good.typed (is, tt)
      (are_roots_more program (kinds_of (objects_in plan)) (Some kind ∷ []) plan.left.roots good.typed.roots));
  next =
      let long : length (objects_in (with_one plan site kind contents)) ≡ length (objects_in plan) + 1 =
      ap length (one_put plan site kind contents) ∙ length-append (objects_in plan) (map Some (object_of site kind contents ∷ [])) in
      let old = good.next in
      omega (arith, long, old);
}

-- ---- plans that grow

-- the kinds of a plan's objects are these, and others behind them; no exception is pending
pub record Grows (kinds : Kinds) (plan : Plan) : Type 0 where
  pub more : Kinds
  pub is : kinds_of (objects_in plan) ≡ kinds ++ more
  pub runs : plan.left.roots.pending ≡ 0

pub grows_first : (state : State) → state.roots.pending ≡ 0 → Grows (kinds_of state.objects) (leaving state)
grows_first state runs = record { more = []; is = sym (append-nil (kinds_of state.objects)); runs = runs }

pub grows_one : (kinds : Kinds) (plan : Plan) (site kind : ℕ) (contents : List Content) → Grows kinds plan → Grows kinds (with_one plan site kind contents)
grows_one kinds plan site kind contents grows = record {
  more = grows.more ++ Some kind ∷ [];
  is = ap kinds_of (one_put plan site kind contents) ∙ kinds_grown (objects_in plan) (object_of site kind contents ∷ [])
      ∙ ap (λ (front : Kinds). front ++ Some kind ∷ []) grows.is ∙ append_assoc kinds grows.more (Some kind ∷ []);
  runs = grows.runs;
}

abbrev entered_constant : ℕ → Placed → Placed
entered_constant text placed =
    record { serial = placed.serial; plan = with_left placed.plan (with_entry placed.plan.left tables.Constants text placed.serial) }

abbrev constant_or_new : Machine → ℕ → Plan → ℕ → Placed
constant_or_new machine text plan zero =
    entered_constant text (with_string machine constant_strings constant_characters (or_none (slice_get machine.program.constants text)) plan)
constant_or_new machine text plan (suc place) = record { serial = suc place; plan = plan }

pub constant_grows : (machine : Machine) (kinds : Kinds) (text : ℕ) (plan : Plan) → Grows kinds plan → Grows kinds (constant_string machine text plan).plan
constant_grows machine kinds text plan grows = by (listed plan.left.roots.tables.constants text)
  where
    by : (serial : ℕ) → Grows kinds (constant_or_new machine text plan serial).plan
    by zero =
        let units : List ℕ = or_none (slice_get machine.program.constants text) in
        let string : Plan = (with_string machine constant_strings constant_characters units plan).plan in
        let own : Grows kinds string =
        grows_one kinds _ constant_strings (kind_of_site machine.program constant_strings) _ (grows_one kinds plan constant_characters (kind_of_site machine.program constant_characters) _ grows) in
        record { more = own.more; is = own.is; runs = own.runs }
    by (suc place) = grows

-- ---- at the next instruction

module _ (machine : Machine) (state : State) (frame : MethodFrame) (below : List Frame) (insn : Insn) (action : Action)
    (stage : Stage machine state frame below insn action) (plan : Plan) (good : IsGood machine.program plan) (grows : Grows (kinds_of state.objects) plan) where
  abbrev kinds : Kinds
  kinds = kinds_of (objects_in plan)

  abbrev grown : Kinds
  grown = kinds_of state.objects ++ grows.more

  good_typed : (place : ℕ) (held stack : List Value) → Arrives machine.program frame.method stage.after place
      → HaveTypes stage.method grown stage.after.locals held → IsStack stage.method grown stage.after.stack stack
      → IsTypedState machine.program (made (goes_to (now_at machine state frame below) place held stack plan))
  good_typed place held stack arrives have is =
      let both = arrived machine.program grown stage.method stage.own stage.holds stage.after arrives.there held stack arrives.goes have is in
      let frames : List Frame = OfMethod (at_place frame place held stack) ∷ below in
      let standing : AreStanding machine.program grown frames =
      AreStanding.AMethod (at_place frame place held stack) below
      (record {
        at = record { method = stage.method; within = stage.within; types = arrives.there; before = arrives.before; slots = stage.slots };
        locals = both.0;
        stack = both.1;
      }) (are_below_more machine.program (kinds_of state.objects) grows.more _ below stage.under) in
      record {
        heap = good.typed.heap;
        roots = record {
          frames = subst (λ (pending : ℕ). AreFrames machine.program kinds pending frames) (sym grows.runs)
              (AreFrames.Running frames (subst (λ (kinds : Kinds). AreStanding machine.program kinds frames) (sym grows.is) standing));
          statics = good.typed.roots.statics;
          classes = good.typed.roots.classes;
          tables = good.typed.roots.tables;
          argument = good.typed.roots.argument;
        };
        input = good.typed.input;
      }

  -- with the same local variables, where only the stack changes
  pub lays_good : falls_on action ≡ true → (types : List VerificationType) (stack : List Value)
      → verified.with_stack stage.method.body.max_stack stage.types types ≡ Some stage.after → IsStack stage.method grown types stack
      → Planned machine.program (leaves_with (now_at machine state frame below) stack plan)
  lays_good falling types stack so is =
      let same = with_stack_is stage.method.body.max_stack stage.types types stage.after so in
      let next = stage.next falling in
      record {
        plan = goes_to (now_at machine state frame below) next.place frame.locals stack plan;
        is = ap (option_map (λ (place : ℕ). goes_to (now_at machine state frame below) place frame.locals stack plan)) next.behind;
        typed = good_typed next.place frame.locals stack next.arrives
            (subst (λ (own : verified.Frame). HaveTypes stage.method grown own.locals frame.locals) same
            (have_types_more stage.method (kinds_of state.objects) grows.more stage.types.locals frame.locals stage.locals))
            (subst (λ (own : verified.Frame). IsStack stage.method grown own.stack stack) same is);
      }
