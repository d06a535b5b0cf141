-- Methods that are called: what a program has of them, the frame that waits for one, and the frame that stands upon it.
use Rattle.std.proofs.Common.{◌≡◌, ◌∙◌, ap, refl, sym, subst, subst₂, arith, ℕ, ◌+◌, ◌≤◌, ◌<◌, Bool, true, false, List, [], ◌∷◌, ◌++◌, length, map, reverse, Option, Some, None, option_and_then, option_map, slice_get}
use Rattle.std.specs.Prelude.{if◌then◌else◌}
use Rattle.std.specs.List.{AllByRecursion, enumerate_from}
use Rattle.std.proofs.lemmas.List.{reverse-reverse}
use Rattle.std.proofs.lemmas.Option.{option_and_then_some, same_Some}
use Rattle.cb_classfile.specs.declared.body.Body.{Body}
use Rattle.cb_classfile.specs.declared.class.ClassFile.{ClassFile}
use Rattle.cb_classfile.specs.declared.method.Method.{Method}
use Rattle.cb_hierarchy.specs.Classes.{listed}
use Rattle.cb_insn.specs.declared.insn.Insn.{Insn}
use Rattle.cb_kinds.specs.declared.basic.Basic.{Basic}
use Rattle.cb_link.specs.Having.{IsWhole, parameters_at}
use Rattle.cb_link.specs.Named.{code_at, insn_in, named}
use Rattle.cb_link.specs.Numbers.{Numbered, methods_of}
use Rattle.cb_link.specs.Places.{numbered_in}
use Rattle.cb_link.specs.Program.{Linked, linked_method}
use Rattle.cb_link.specs.declared.linked.LinkedMethod.{LinkedMethod}
use Rattle.cb_link.specs.declared.named.Named.TheVariants as meanings
use Rattle.cb_machine.specs.Calling.{asked_sorts}
use Rattle.cb_machine.specs.Entering.{entered_upon}
use Rattle.cb_machine.specs.Machine.{Machine}
use Rattle.cb_machine.specs.Plans.{Plan, leaving, made}
use Rattle.cb_machine.specs.Sites.{stack_overflow}
use Rattle.cb_machine.specs.Standing.{with_stack}
use Rattle.cb_machine.specs.Throwing.{throws}
use Rattle.cb_machine.specs.Values.{sort_of_basic}
use Rattle.cb_plain.specs.Depth.{has_room}
use Rattle.cb_plain.specs.State.{Frame, MethodFrame, OfMethod, State}
use Rattle.cb_plain.specs.Updates.{with_frames}
use Rattle.cb_plain.specs.declared.value.Value.{Value}
use Rattle.cb_shapes.specs.Shapes.{action_of}
use Rattle.cb_shapes.specs.Targets.{goes_on}
use Rattle.cb_shapes.specs.declared.action.Action.{Action}
use Rattle.cb_verify.specs.declared.verification_type.VerificationType.{VerificationType}
use Rattle.cb_verify.specs.Calls.{exchanged, popped, put_on}
use Rattle.cb_verify.specs.Expansion.{start_types}
use Rattle.cb_verify.specs.Frames as verified
use Rattle.cb_verify.specs.Leaving.{left, left_with}
use Rattle.cb_verify.specs.Members.{Member, member_at, member_of}
use Rattle.cb_verify.specs.Typed.{IsTyped, falls}
use Rattle.cb_verify.specs.Types.{type_of}
use Rattle.cb_verify.specs.Within.{Within, of_class, with_body, within}
use Rattle.cb_safety.specs.Advancing.{HoldsOn, IsSpelled}
use Rattle.cb_safety.specs.Beginning.{Begins}
use Rattle.cb_safety.specs.Flows.{Flows}
use Rattle.cb_safety.specs.Frames.{AreBelow, AreStanding, Before, Waits, result_at, result_types}
use Rattle.cb_safety.specs.Held.{HaveTypes, IsStack}
use Rattle.cb_safety.specs.Kinds.{Kinds, kinds_of}
use Rattle.cb_safety.specs.States.{IsTypedState}
use Rattle.cb_safety.specs.Throwing.{AreThrown}
use Rattle.cb_safety.proofs.Assigned.{never}
use Rattle.cb_safety.proofs.Entering.{AreTold, basics_elsewhere, entry_of, entry_stands, have_reversed, map_reverse}
use Rattle.cb_safety.proofs.Entries.{within_method}
use Rattle.cb_safety.proofs.Going.{Planned, Topmost, spelled_rise, topmost, with_stack_is, with_topmost}
use Rattle.cb_safety.proofs.Flowing.{flows}
use Rattle.cb_safety.proofs.Lists.{all_at, all_given}
use Rattle.cb_safety.proofs.Returning.{within_number}
use Rattle.cb_safety.proofs.Throwing.{throws_typed}

-- ---- what a program has of a method with code

pub record HasParts (program : Linked) (number : ℕ) (method : Within) : Type 0 where
  pub linked : LinkedMethod
  pub is_linked : slice_get program.methods number ≡ Some linked
  pub class : linked.class ≡ method.class
  pub numbered : Numbered Method
  pub is_numbered : slice_get (methods_of program.classes) number ≡ Some numbered
  pub body : numbered.member.body ≡ Some method.body

abbrev class_in : ℕ → Option Within → ℕ
class_in class None = class
class_in class (Some method) = method.class

abbrev body_in : Body → Option Within → Body
body_in body None = body
body_in body (Some method) = method.body

pub has_parts : (program : Linked) (number : ℕ) (method : Within) → within program number ≡ Some method → HasParts program number method
has_parts program number method so = go (slice_get program.methods number) (slice_get (methods_of program.classes) number) refl refl so where
  with_code : (linked : LinkedMethod) (own : Numbered Method) → slice_get program.methods number ≡ Some linked → slice_get (methods_of program.classes) number ≡ Some own
      → (body : Option Body) → own.member.body ≡ body → with_body program number linked.class own.member body ≡ Some method → HasParts program number method
  with_code linked own one other None is so = never so
  with_code linked own one other (Some body) is so = record {
    linked = linked;
    is_linked = one;
    class = ap (class_in linked.class) so;
    numbered = own;
    is_numbered = other;
    body = is ∙ ap (λ (found : Option Within). Some (body_in body found)) so;
  }

  go : (linked : Option LinkedMethod) (found : Option (Numbered Method)) → slice_get program.methods number ≡ linked → slice_get (methods_of program.classes) number ≡ found
      → option_and_then (λ (linked : LinkedMethod). option_and_then (of_class program number linked.class) (option_map (λ (own : Numbered Method). own.member) found)) linked ≡ Some method
      → HasParts program number method
  go None found one other so = never so
  go (Some linked) None one other so = never so
  go (Some linked) (Some own) one other so = with_code linked own one other own.member.body refl so

-- ---- its class is one of the program's

pub all_changed : {Item Part : Type 0} (P : Part → Type 0) (change : Item → Part) (items : List Item) → AllByRecursion (λ item. P (change item)) items → AllByRecursion P (map change items)
all_changed P change [] all = tt
all_changed P change (item ∷ items) all = (all.0, all_changed P change items all.1)

pub all_so : {Item : Type 0} (P : Item → Type 0) (items : List Item) → ((item : Item) → P item) → AllByRecursion P items
all_so P [] each = tt
all_so P (item ∷ items) each = (each item, all_so P items each)

all_low : {Item : Type 0} (start bound : ℕ) (items : List Item) → start + length items ≤ bound → AllByRecursion (λ entry. entry.0 < bound) (enumerate_from start items)
all_low start bound [] low = tt
all_low start bound (item ∷ items) low = (omega (arith, low), all_low (start + 1) bound items (omega (arith, low)))

classes_low : (classes : List ClassFile) → AllByRecursion (λ own. own.class < length classes) (methods_of classes)
classes_low classes =
    all_given (λ (entry : ℕ × ClassFile). entry.0 < length classes) (λ (own : Numbered Method). own.class < length classes) (numbered_in (λ class. class.methods))
    (enumerate_from 0 classes)
    (λ entry low. all_changed (λ (own : Numbered Method). own.class < length classes)
    (λ (own : ℕ × Method). record { class = entry.0; place = own.0; pool = entry.1.pool; member = own.1 }) (enumerate_from 0 entry.1.methods)
    (all_so (λ (own : ℕ × Method). entry.0 < length classes) (enumerate_from 0 entry.1.methods) (λ own. low)))
    (all_low 0 (length classes) classes (omega arith))

pub class_low : (program : Linked) (number : ℕ) (linked : LinkedMethod) → IsWhole program → slice_get program.methods number ≡ Some linked → linked.class < length program.classes
class_low program number linked whole is =
    all_at (λ (own : LinkedMethod). own.class < length program.classes) (map (linked_method program.kinds) (methods_of program.classes)) number linked
    (all_changed (λ (own : LinkedMethod). own.class < length program.classes) (linked_method program.kinds) (methods_of program.classes) (classes_low program.classes))
    (ap (λ (methods : List LinkedMethod). slice_get methods number) (sym whole.methods) ∙ is)

-- ---- what stands at a call

pub record Call (machine : Machine) (state : State) (frame : MethodFrame) (below : List Frame) (insn : Insn) (action : Action) : Type 0 where
  pub holds : HoldsOn machine.program
  pub typed : IsTypedState machine.program state
  pub runs : state.roots.pending ≡ 0
  pub under : AreBelow machine.program (kinds_of state.objects) (result_at machine.program frame.method) below
  pub at : Before machine.program frame
  pub own : at.method.program ≡ machine.program
  pub locals : HaveTypes at.method (kinds_of state.objects) at.types.locals frame.locals
  pub stack : IsStack at.method (kinds_of state.objects) at.types.stack frame.stack
  pub there : insn_in (code_at machine.program frame.method) frame.pc ≡ Some insn
  pub acts : action_of insn ≡ Some action
  pub after : verified.Frame
  pub leaves : left at.method frame.pc insn at.types ≡ Some after

pub call_of : (machine : Machine) (state : State) (frame : MethodFrame) (below : List Frame) (insn : Insn) (action : Action)
    → IsTyped machine.program → IsSpelled machine.program → HoldsOn machine.program → IsTypedState machine.program state
    → state.roots.pending ≡ 0 → state.roots.frames ≡ OfMethod frame ∷ below
    → insn_in (code_at machine.program frame.method) frame.pc ≡ Some insn → action_of insn ≡ Some action → Call machine state frame below insn action
call_of machine state frame below insn action fits spelled holds typed zero frames there so = record {
  holds = holds;
  typed = typed;
  runs = zero;
  under = top.under;
  at = at;
  own = (within_method machine.program frame.method at.method at.within).own;
  locals = top.stands.locals;
  stack = top.stands.stack;
  there = there;
  acts = so;
  after = flow.after;
  leaves = subst₂ (λ (method : Within) (insn : Insn). left method frame.pc insn at.types ≡ Some flow.after) method_is insn_is flow.leaves;
}
  where
    top : Topmost machine.program (kinds_of state.objects) frame below
    top = topmost machine.program state frame below typed zero frames

    at : Before machine.program frame
    at = top.stands.at

    flow : Flows machine.program frame.method frame.pc at.types
    flow = flows machine.program frame.method frame.pc at.types fits (spelled_rise machine.program spelled) at.before

    method_is : flow.method ≡ at.method
    method_is = same_Some flow.method at.method (sym flow.within ∙ at.within)

    insn_is : flow.insn ≡ insn
    insn_is = same_Some flow.insn insn (sym flow.there ∙ there)

-- what it leaves, by its shape
pub leaves_by : (machine : Machine) (state : State) (frame : MethodFrame) (below : List Frame) (insn : Insn) (action : Action) (call : Call machine state frame below insn action)
    → left_with call.at.method frame.pc (member_at call.at.method frame.pc) action call.at.types ≡ Some call.after
leaves_by machine state frame below insn action call =
    sym (ap (option_and_then (λ (action : Action). left_with call.at.method frame.pc (member_at call.at.method frame.pc) action call.at.types)) call.acts) ∙ call.leaves

-- ---- the method is entered

abbrev entered_or : Bool → Plan → Plan → Plan
entered_or test one other = if test then one else other

module _ (machine : Machine) (state : State) (frame : MethodFrame) (below : List Frame) (insn : Insn) (action : Action) (call : Call machine state frame below insn action) where
  pub waits_by : (left : List Value) (result : Option Basic) (rest : List VerificationType) → falls insn ≡ true → call.after.stack ≡ result_types result ++ rest
      → HaveTypes call.at.method (kinds_of state.objects) call.after.locals frame.locals → IsStack call.at.method (kinds_of state.objects) rest left
      → Waits machine.program (kinds_of state.objects) result (with_stack frame left)
  waits_by left result rest falling answered locals stack = record {
    at = record { method = call.at.method; within = call.at.within; types = call.at.types; before = call.at.before; slots = call.at.slots };
    insn = insn;
    there = call.there;
    after = call.after;
    leaves = call.leaves;
    falls = falling;
    rest = rest;
    answered = answered;
    before = call.locals;
    locals = locals;
    stack = stack;
  }

  pub enters : (left arguments : List Value) (rest : List VerificationType) (number : ℕ) (callee : Within) → AreThrown machine.program
      → within machine.program number ≡ Some callee → Begins machine.program number callee
      → HaveTypes callee (kinds_of state.objects) (start_types callee) arguments → AreTold (start_types callee)
      → falls insn ≡ true → call.after.stack ≡ result_types (result_at machine.program number) ++ rest
      → HaveTypes call.at.method (kinds_of state.objects) call.after.locals frame.locals → IsStack call.at.method (kinds_of state.objects) rest left
      → Planned machine.program (Some (entered_upon machine state (OfMethod (with_stack frame left) ∷ below) number arguments callee.body))
  enters left arguments rest number callee thrown so begins have told falling answered locals stack = record {
    plan = entered_upon machine state frames number arguments callee.body;
    is = refl;
    typed = by (has_room machine.frames frames (callee.body.max_locals + callee.body.max_stack));
  }
    where
      frames : List Frame
      frames = OfMethod (with_stack frame left) ∷ below

      entry : MethodFrame
      entry = entry_of number callee arguments

      standing : AreStanding machine.program (kinds_of state.objects) (OfMethod entry ∷ frames)
      standing =
          AreStanding.AMethod entry frames (entry_stands machine.program call.holds (kinds_of state.objects) number callee arguments so begins have told)
          (AreBelow.ACall (result_at machine.program number) (with_stack frame left) below
          (waits_by left (result_at machine.program number) rest falling answered locals stack) call.under)

      by : (test : Bool) → IsTypedState machine.program (made (entered_or test (leaving (with_frames state (OfMethod entry ∷ frames))) (throws machine state stack_overflow)))
      by true = with_topmost machine.program state (OfMethod entry ∷ frames) call.typed call.runs standing
      by false = throws_typed machine state stack_overflow call.typed (thrown stack_overflow (6, omega arith, refl))

-- the next instruction may be reached, by its shape
abbrev falling_of : Option Action → Bool
falling_of None = false
falling_of (Some action) = goes_on action

pub falls_by : (insn : Insn) (action : Action) → action_of insn ≡ Some action → goes_on action ≡ true → falls insn ≡ true
falls_by insn action so falling = ap falling_of so ∙ falling

-- ---- what is exchanged on a stack

pub record Exchanged (method : Within) (frame after : verified.Frame) (given wanted : List VerificationType) : Type 0 where
  pub rest : List VerificationType
  pub off : popped method.program wanted frame.stack ≡ Some rest
  pub stack : after.stack ≡ given ++ rest
  pub locals : after.locals ≡ frame.locals

pub exchanged_by : (method : Within) (frame after : verified.Frame) (given wanted : List VerificationType) → exchanged method frame given wanted ≡ Some after
    → Exchanged method frame after given wanted
exchanged_by method frame after given wanted so =
    option_and_then_some (put_on method frame given) (popped method.program wanted frame.stack) after so
    (λ rest off put.
    let same = with_stack_is method.body.max_stack frame (given ++ rest) after put in
    record { rest = rest; off = off; stack = sym (ap (λ (own : verified.Frame). own.stack) same); locals = sym (ap (λ (own : verified.Frame). own.locals) same) })

-- ---- what a call takes and gives

abbrev method_member : Option LinkedMethod → Member
method_member None = record { takes = []; gives = None }
method_member (Some method) = record { takes = reverse method.parameters; gives = method.result }

pub member_there : (program : Linked) (caller pc number : ℕ) (method : Within) (linked : LinkedMethod) → within program caller ≡ Some method
    → named program caller pc ≡ meanings.Method number → slice_get program.methods number ≡ Some linked
    → member_at method pc ≡ record { takes = reverse linked.parameters; gives = linked.result }
member_there program caller pc number method linked so names is =
    ap (λ (own : Linked). member_of own (named own method.number pc)) (within_method program caller method so).own
    ∙ ap (λ (own : ℕ). member_of program (named program own pc)) (within_number program caller method so)
    ∙ ap (member_of program) names
    ∙ ap method_member is

abbrev parameters_of : Option LinkedMethod → List Basic
parameters_of None = []
parameters_of (Some method) = method.parameters

pub parameters_there : (program : Linked) (number : ℕ) (linked : LinkedMethod) → slice_get program.methods number ≡ Some linked → parameters_at program number ≡ linked.parameters
parameters_there program number linked is = ap parameters_of is

pub given_is : (result : Option Basic) → map type_of (listed result) ≡ result_types result
given_is None = refl
given_is (Some basic) = refl

pub sorts_are : (program : Linked) (number : ℕ) (linked : LinkedMethod) → slice_get program.methods number ≡ Some linked
    → asked_sorts program number ≡ map sort_of_basic (reverse linked.parameters)
sorts_are program number linked is =
    ap (λ (own : List Basic). reverse (map sort_of_basic own)) (parameters_there program number linked is) ∙ sym (map_reverse sort_of_basic linked.parameters)

-- arguments in the order of the parameters, in the method that is called
pub arguments_typed : (one other : Within) (kinds : Kinds) (wanted : List Basic) (held : List Value) → one.program ≡ other.program
    → HaveTypes one kinds (map type_of (reverse wanted)) held → HaveTypes other kinds (map type_of wanted) (reverse held)
arguments_typed one other kinds wanted held same have =
    basics_elsewhere one other kinds wanted (reverse held) same
    (subst (λ (types : List VerificationType). HaveTypes one kinds types (reverse held))
    (sym (map_reverse type_of (reverse wanted)) ∙ ap (map type_of) (reverse-reverse wanted))
    (have_reversed one kinds (map type_of (reverse wanted)) held have))
