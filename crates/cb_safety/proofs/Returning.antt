-- A typed state advances at a return: the frame below goes on behind its call, with the value on its stack.
use Rattle.std.proofs.Common.{◌≡◌, ◌∙◌, ap, refl, sym, subst, subst₂, ℕ, Bool, true, false, not, ◌&&◌, List, [], ◌∷◌, ◌++◌, Option, Some, None, option_and_then, option_map, slice_get, if◌then◌else◌}
use Rattle.std.specs.Prelude.{is_none}
use Rattle.std.proofs.lemmas.Bool.{and_parts, false≢true}
use Rattle.std.proofs.lemmas.Option.{option_and_then_some, same_Some}
use Rattle.cb_classfile.specs.declared.body.Body.{Body}
use Rattle.cb_classfile.specs.declared.method.Method.{Method}
use Rattle.cb_insn.specs.declared.insn.Insn.{Insn}
use Rattle.cb_kinds.specs.declared.basic.Basic.{Basic}
use Rattle.cb_kinds.specs.declared.basic.Basic.TheVariants as basics
use Rattle.cb_link.specs.declared.linked.LinkedMethod.{LinkedMethod}
use Rattle.cb_link.specs.Named.{code_at, insn_in}
use Rattle.cb_link.specs.Numbers.{Numbered, methods_of}
use Rattle.cb_link.specs.Program.{Linked}
use Rattle.cb_machine.specs.Calling.{answered, returns}
use Rattle.cb_machine.specs.Machine.{Machine}
use Rattle.cb_machine.specs.Plans.{Plan, leaving}
use Rattle.cb_machine.specs.Standing.{at_place, taken as taken_values}
use Rattle.cb_machine.specs.Steps.{done}
use Rattle.cb_machine.specs.Values.{sort_of_basic}
use Rattle.cb_plain.specs.State.{Frame, Initialising, MethodFrame, OfMethod, State}
use Rattle.cb_plain.specs.Updates.{with_frames}
use Rattle.cb_plain.specs.declared.value.Value.{Value}
use Rattle.cb_shapes.specs.Shapes.{action_of}
use Rattle.cb_shapes.specs.declared.action.Action.TheVariants as actions
use Rattle.cb_shapes.specs.declared.sort.Sort.{Sort}
use Rattle.cb_shapes.specs.declared.sort.Sort.TheVariants as sorts
use Rattle.cb_verify.specs.declared.verification_type.VerificationType.{VerificationType}
use Rattle.cb_verify.specs.declared.verification_type.VerificationType.TheVariants.{Int, Long, Object}
use Rattle.cb_verify.specs.Calls.{exchanged, popped, put_on}
use Rattle.cb_verify.specs.Frames as verified
use Rattle.cb_verify.specs.Leaving.{left}
use Rattle.cb_verify.specs.Typed.{IsTyped, falls}
use Rattle.cb_verify.specs.Types.{is_of, type_of}
use Rattle.cb_verify.specs.Within.{Within, of_class, result_of, with_body, within}
use Rattle.cb_safety.specs.Advancing.{Advances, HoldsOn, IsSpelled}
use Rattle.cb_safety.specs.Flows.{FallsTo, Flows}
use Rattle.cb_safety.specs.Frames.{AreBelow, AreStanding, Waits, result_at, result_types}
use Rattle.cb_safety.specs.Held.{HasType, HaveTypes, IsStack}
use Rattle.cb_safety.specs.Kinds.{Kinds, Refers, kinds_of}
use Rattle.cb_safety.specs.States.{IsTypedState}
use Rattle.cb_safety.proofs.Assigned.{never, when}
use Rattle.cb_safety.proofs.Entries.{within_method}
use Rattle.cb_safety.proofs.Going.{Planned, Stage, advances_by, arrived, now_at, planned_by, running, spelled_rise, stage_of, with_topmost}
use Rattle.cb_safety.proofs.Flowing.{flows}
use Rattle.cb_safety.proofs.Taken.{basic_sized, popped_typed}

-- ---- values of the types that descriptors have are so in each method

abbrev is_basic : VerificationType → Bool
is_basic Int = true
is_basic Long = true
is_basic (Object kind) = true
is_basic other = false

type_is_basic : (basic : Basic) → is_basic (type_of basic) ≡ true
type_is_basic (basics.Reference kind) = refl
type_is_basic basics.Long = refl
type_is_basic other = refl

has_elsewhere : (one other : Within) (kinds : Kinds) (type : VerificationType) (value : Value) → one.program ≡ other.program → is_basic type ≡ true
    → HasType one kinds type value → HasType other kinds type value
has_elsewhere one other kinds type value same is (HasType.AnInt number fits) = HasType.AnInt number fits
has_elsewhere one other kinds type value same is (HasType.ALong number fits) = HasType.ALong number fits
has_elsewhere one other kinds type value same is (HasType.AReference kind serial refers) =
    HasType.AReference kind serial (subst (λ (program : Linked). Refers program kinds kind serial) same refers)
has_elsewhere one other kinds type value same is has = absurd (false≢true is)

pub basic_elsewhere : (one other : Within) (kinds : Kinds) (basic : Basic) (value : Value) → one.program ≡ other.program
    → HasType one kinds (type_of basic) value → HasType other kinds (type_of basic) value
basic_elsewhere one other kinds basic value same has = has_elsewhere one other kinds (type_of basic) value same (type_is_basic basic) has

-- ---- the number of a method

abbrev number_in : ℕ → Option Within → ℕ
number_in number None = number
number_in number (Some method) = method.number

number_found : (program : Linked) (number : ℕ) (method : Within) (linked : Option LinkedMethod) (found : Option Method)
    → option_and_then (λ (linked : LinkedMethod). option_and_then (of_class program number linked.class) found) linked ≡ Some method → method.number ≡ number
number_found program number method None found so = never so
number_found program number method (Some linked) None so = never so
number_found program number method (Some linked) (Some own) so = go own.body so where
  go : (body : Option Body) → with_body program number linked.class own body ≡ Some method → method.number ≡ number
  go None so = never so
  go (Some body) so = sym (ap (number_in number) so)

pub within_number : (program : Linked) (number : ℕ) (method : Within) → within program number ≡ Some method → method.number ≡ number
within_number program number method so =
    number_found program number method (slice_get program.methods number) (option_map (λ (own : Numbered Method). own.member) (slice_get (methods_of program.classes) number)) so

result_there : (program : Linked) (number : ℕ) (method : Within) → within program number ≡ Some method → result_of method ≡ result_at program number
result_there program number method so =
    ap (λ (own : Linked). result_at own method.number) (within_method program number method so).own
    ∙ ap (result_at program) (within_number program number method so)

-- ---- the frame below takes the answer

abbrev pub Answers : Linked → Kinds → Option Basic → List Value → Type 0
Answers program kinds result answer =
    (method : Within) (types : List VerificationType) (stack : List Value) → method.program ≡ program → IsStack method kinds types stack
    → IsStack method kinds (result_types result ++ types) (answer ++ stack)

pub no_answer : (program : Linked) (kinds : Kinds) → Answers program kinds None []
no_answer program kinds method types stack own is = is

one_answer : (program : Linked) (kinds : Kinds) (from : Within) (basic : Basic) (value : Value) → from.program ≡ program → HasType from kinds (type_of basic) value
    → Answers program kinds (Some basic) (value ∷ [])
one_answer program kinds from basic value here has method types stack own is =
    let there : HasType method kinds (type_of basic) value = basic_elsewhere from method kinds basic value (here ∙ sym own) has in
    IsStack.Upon (type_of basic) value types stack there (basic_sized method kinds basic value there) is

abbrev back_to : Linked → List Value → List Frame → Option (List Frame)
back_to program answer (OfMethod frame ∷ below) = option_map (λ now. OfMethod now ∷ below) (answered program frame answer)
back_to program answer other = Some other

pub record Returned (program : Linked) (kinds : Kinds) (answer : List Value) (below : List Frame) : Type 0 where
  pub frames : List Frame
  pub is : back_to program answer below ≡ Some frames
  pub standing : AreStanding program kinds frames

-- a method's frame that waits goes on behind its call
pub record Answered (program : Linked) (kinds : Kinds) (frame : MethodFrame) (below : List Frame) (answer : List Value) : Type 0 where
  pub next : MethodFrame
  pub is : answered program frame answer ≡ Some next
  pub standing : AreStanding program kinds (OfMethod next ∷ below)

module _ (program : Linked) (typed : IsTyped program) (spelled : IsSpelled program) (holds : HoldsOn program) (kinds : Kinds) where
  pub goes_behind : (result : Option Basic) (frame : MethodFrame) (below : List Frame) (answer : List Value) → Waits program kinds result frame
      → AreBelow program kinds (result_at program frame.method) below → Answers program kinds result answer → Answered program kinds frame below answer
  goes_behind result frame below answer waits under answers = record {
    next = at_place frame onward.place frame.locals (answer ++ frame.stack);
    is = ap (option_map (λ (pc : ℕ). at_place frame pc frame.locals (answer ++ frame.stack))) onward.behind;
    standing = AreStanding.AMethod (at_place frame onward.place frame.locals (answer ++ frame.stack)) below
        (record {
          at = record { method = waits.at.method; within = waits.at.within; types = onward.arrives.there; before = onward.arrives.before; slots = waits.at.slots };
          locals = both.0;
          stack = both.1;
        }) under;
  }
    where
      flow : Flows program frame.method frame.pc waits.at.types
      flow = flows program frame.method frame.pc waits.at.types typed (spelled_rise program spelled) waits.at.before

      own : waits.at.method.program ≡ program
      own = (within_method program frame.method waits.at.method waits.at.within).own

      method_is : flow.method ≡ waits.at.method
      method_is = same_Some flow.method waits.at.method (sym flow.within ∙ waits.at.within)

      insn_is : flow.insn ≡ waits.insn
      insn_is = same_Some flow.insn waits.insn (sym flow.there ∙ waits.there)

      after_is : flow.after ≡ waits.after
      after_is = same_Some flow.after waits.after
          (sym (subst₂ (λ (method : Within) (insn : Insn). left method frame.pc insn waits.at.types ≡ Some flow.after) method_is insn_is flow.leaves) ∙ waits.leaves)

      onward : FallsTo program frame.method frame.pc waits.after
      onward = subst (λ (after : verified.Frame). FallsTo program frame.method frame.pc after) after_is (flow.next (ap falls insn_is ∙ waits.falls))

      stacked : IsStack waits.at.method kinds waits.after.stack (answer ++ frame.stack)
      stacked = subst (λ (types : List VerificationType). IsStack waits.at.method kinds types (answer ++ frame.stack)) (sym waits.answered)
          (answers waits.at.method waits.rest frame.stack own waits.stack)

      both : HaveTypes waits.at.method kinds onward.arrives.there.locals frame.locals × IsStack waits.at.method kinds onward.arrives.there.stack (answer ++ frame.stack)
      both = arrived program kinds waits.at.method own holds waits.after onward.arrives.there frame.locals (answer ++ frame.stack) onward.arrives.goes waits.locals stacked

  pub returned : (result : Option Basic) (below : List Frame) (answer : List Value) → AreBelow program kinds result below → Answers program kinds result answer
      → Returned program kinds answer below
  returned result below answer AreBelow.Nothing answers = record { frames = []; is = refl; standing = AreStanding.NotYet }
  returned result below answer (AreBelow.ACall own frame rest waits under) answers =
      let on = goes_behind own frame rest answer waits under answers in
      record { frames = OfMethod on.next ∷ rest; is = ap (option_map (λ (now : MethodFrame). OfMethod now ∷ rest)) on.is; standing = on.standing }
  returned result below answer (AreBelow.AnInitialiser class place rest low standing) answers =
      record { frames = Initialising class place ∷ rest; is = refl; standing = AreStanding.AnInitialisation class place rest low standing }

-- ---- a return

sort_is : (sort : Sort) (basic : Basic) → is_of sort (type_of basic) ≡ true → sort_of_basic basic ≡ sort
sort_is sorts.Int (basics.Reference kind) is = absurd (false≢true is)
sort_is sorts.Int basics.Long is = absurd (false≢true is)
sort_is sorts.Int other is = refl
sort_is sorts.Long basics.Long is = refl
sort_is sorts.Long (basics.Reference kind) is = absurd (false≢true is)
sort_is sorts.Long other is = absurd (false≢true is)
sort_is sorts.Reference (basics.Reference kind) is = refl
sort_is sorts.Reference basics.Long is = absurd (false≢true is)
sort_is sorts.Reference other is = absurd (false≢true is)

pub none_there : (result : Option Basic) → is_none result ≡ true → result ≡ None
none_there None is = refl
none_there (Some basic) is = absurd (false≢true is)

module _ (machine : Machine) (state : State) (frame : MethodFrame) (below : List Frame) (insn : Insn) (sort : Option Sort)
    (typed : IsTyped machine.program) (spelled : IsSpelled machine.program) (stage : Stage machine state frame below insn (actions.Return sort)) where
  abbrev kinds : Kinds
  kinds = kinds_of state.objects

  abbrev returns_off : List Value × List Value → Option Plan
  returns_off taken = option_map (λ frames. leaving (with_frames state frames)) (back_to machine.program taken.0 below)

  own_result : result_of stage.method ≡ result_at machine.program frame.method
  own_result = result_there machine.program frame.method stage.method stage.within

  planned_with : (result : Option Basic) (answer left : List Value) → result_of stage.method ≡ result → Answers machine.program kinds result answer
      → Planned machine.program (returns_off (answer, left))
  planned_with result answer left same answers =
      let done = returned machine.program typed spelled stage.holds kinds result below answer
      (subst (λ (own : Option Basic). AreBelow machine.program kinds own below) (sym own_result ∙ same) stage.under) answers in
      record {
        plan = leaving (with_frames state done.frames);
        is = ap (option_map (λ (frames : List Frame). leaving (with_frames state frames))) done.is;
        typed = with_topmost machine.program state done.frames stage.typed stage.runs done.standing;
      }

abbrev return_of : Within → Sort → verified.Frame → Basic → Option verified.Frame
return_of method sort frame result = if is_of sort (type_of result) then exchanged method frame [] (type_of result ∷ []) else None

return_advances : (machine : Machine) (state : State) (frame : MethodFrame) (below : List Frame) (insn : Insn) (sort : Option Sort)
    → IsTyped machine.program → IsSpelled machine.program → Stage machine state frame below insn (actions.Return sort)
    → Planned machine.program (returns (now_at machine state frame below) sort)
return_advances machine state frame below insn None typed spelled stage =
    planned_with machine state frame below insn None typed spelled stage None [] frame.stack
    (none_there (result_of stage.method) (and_parts (is_none (result_of stage.method)) (not stage.types.unfinished)
    (when (is_none (result_of stage.method) && not stage.types.unfinished) (Some stage.types) stage.after stage.leaves).0).0)
    (no_answer machine.program (kinds_of state.objects))
return_advances machine state frame below insn (Some sort) typed spelled stage =
    option_and_then_some (return_of stage.method sort stage.types) (result_of stage.method) stage.after stage.leaves by
  where
    kinds : Kinds
    kinds = kinds_of state.objects

    given : (basic : Basic) (values left : List Value) → result_of stage.method ≡ Some basic → HaveTypes stage.method kinds (type_of basic ∷ []) values
        → taken_values (sort ∷ []) frame.stack ≡ Some (values, left) → Planned machine.program (returns (now_at machine state frame below) (Some sort))
    given basic values left gives (HaveTypes.And type value others more has HaveTypes.NoMore) taken =
        planned_by machine.program (returns (now_at machine state frame below) (Some sort)) (returns_off machine state frame below insn (Some sort) typed spelled stage (value ∷ [], left))
        (ap (option_and_then (returns_off machine state frame below insn (Some sort) typed spelled stage)) taken)
        (planned_with machine state frame below insn (Some sort) typed spelled stage (Some basic) (value ∷ []) left gives
        (one_answer machine.program kinds stage.method basic value stage.own has))

    by : (basic : Basic) → result_of stage.method ≡ Some basic → return_of stage.method sort stage.types basic ≡ Some stage.after → Planned machine.program (returns (now_at machine state frame below) (Some sort))
    by basic gives fits =
        let both = when (is_of sort (type_of basic)) (exchanged stage.method stage.types [] (type_of basic ∷ [])) stage.after fits in
        option_and_then_some (put_on stage.method stage.types []) (popped stage.method.program (type_of basic ∷ []) stage.types.stack) stage.after both.1
        (λ rest off put.
        let took = popped_typed stage.method (subst HoldsOn (sym stage.own) stage.holds) kinds (basic ∷ []) stage.types.stack frame.stack rest stage.stack off in
        given basic took.values took.left gives took.held
        (ap (λ (own : Sort). taken_values (own ∷ []) frame.stack) (sym (sort_is sort basic both.0)) ∙ took.taken))

-- ---- the state

pub returns_advance : (machine : Machine) (state : State) (frame : MethodFrame) (below : List Frame) (insn : Insn) (sort : Option Sort)
    → IsTyped machine.program → IsSpelled machine.program → HoldsOn machine.program → IsTypedState machine.program state
    → state.exit ≡ None → state.roots.pending ≡ 0 → state.roots.frames ≡ OfMethod frame ∷ below
    → insn_in (code_at machine.program frame.method) frame.pc ≡ Some insn → action_of insn ≡ Some (actions.Return sort) → Advances machine state
returns_advance machine state frame below insn sort fits spelled holds typed none zero frames there so =
    advances_by machine state (done (now_at machine state frame below) insn.operand (actions.Return sort))
    (running machine state frame below insn (actions.Return sort) none zero frames there so)
    (return_advances machine state frame below insn sort fits spelled
    (stage_of machine state frame below insn (actions.Return sort) fits spelled holds typed zero frames there so))
