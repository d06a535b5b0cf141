-- What is done of an instruction is the machine's step.
use Rattle.std.proofs.Common.{◌≡◌, ◌∙◌, ap, refl, sym, ℕ, Bool, true, List, [], ◌∷◌, Option, Some, None}
use Rattle.std.proofs.lemmas.Bool.{false≢true}
use Rattle.std.specs.Prelude.{is_some, option_map, slice_get}
use Rattle.cb_frames.specs.Tops.{on_top, pushed, stack_in}
use Rattle.cb_insn.specs.declared.insn.Insn.{Insn}
use Rattle.cb_insn.specs.declared.insn.Operand.TheVariants as operands
use Rattle.cb_kinds.specs.declared.basic.Basic.{Basic}
use Rattle.cb_link.specs.Decoding.{decoded_as}
use Rattle.cb_link.specs.Named.{behind_in, code_at}
use Rattle.cb_link.specs.Slots.{field_basic}
use Rattle.cb_link.specs.declared.decoded.Decoded.{Decoded}
use Rattle.cb_link.specs.declared.named.Named.{Named}
use Rattle.cb_link.specs.declared.named.Named.TheVariants as meanings
use Rattle.cb_machine.specs.Arrays.{element_of, loads_element, measures, stores_element, stores_reference}
use Rattle.cb_machine.specs.Branching.{branches}
use Rattle.cb_machine.specs.Calling.{returns}
use Rattle.cb_machine.specs.Computing.{loads_constant}
use Rattle.cb_machine.specs.Fields.{gets_field, puts_field}
use Rattle.cb_machine.specs.Machine.{Machine, or_zero}
use Rattle.cb_machine.specs.Standing.{Now, named_here}
use Rattle.cb_machine.specs.Steps.{done}
use Rattle.cb_machine.specs.Testing.{asks_kind, casts, throws_object}
use Rattle.cb_plain.specs.State.{Frame, MethodFrame, OfMethod, Roots, State}
use Rattle.cb_plain.specs.Updates.{object_in}
use Rattle.cb_plain.specs.declared.value.Value.{Value}
use Rattle.cb_plain.specs.declared.value.Value.TheVariants as values
use Rattle.cb_shapes.specs.Sorts.{sort_of_elements}
use Rattle.cb_shapes.specs.declared.action.Action.{Action}
use Rattle.cb_shapes.specs.declared.action.Action.TheVariants as actions
use Rattle.cb_shapes.specs.declared.sort.Sort.{Sort}
use Rattle.cb_shapes.specs.declared.elements.Elements.{Elements}
use Rattle.cb_shapes.specs.declared.test.Condition.TheVariants as conditions
use Rattle.cb_act.specs.Acting.{Does, basic_on, elements_of, fits_array, fits_on, going_on, loaded, of_frame, of_pended, on_field, on_kind, or_default, roots_left, stored, with_roots}
use Rattle.cb_act.specs.Classes.{behind_cast, behind_instance, behind_throw, fits_serial}
use Rattle.cb_act.specs.Effects.{behind_test, told}
use Rattle.cb_act.specs.Framing.{ByZero, FrameLeft, Leaves, frame_left, frame_plan, is_plain, tested_at}
use Rattle.cb_act.specs.Going.{behind_return}
use Rattle.cb_act.specs.Here.{HasElements as HasElementsAt, planned_as}
use Rattle.cb_act.specs.Objects.{Goes, Left, Throws, behind_get_field, behind_length, behind_load_element, behind_put_field, behind_store_element, behind_store_reference, object_on, referred}
use Rattle.cb_act.specs.Steps.{FitsArray, HasElements, StandsBefore, left_to, pends_to, returns_as, steps_to, tests_to, view_of}
use Rattle.cb_act.proofs.ClassSteps.{asks_so, casts_so, fits_so, throws_so}
use Rattle.cb_act.proofs.FrameLeft.{done_so}
use Rattle.cb_act.proofs.GoingSteps.{returns_so, whole_so}
use Rattle.cb_act.proofs.Leaving.{tests_so}
use Rattle.cb_act.proofs.ObjectSteps.{gets_so, loads_element_so, measures_so, puts_so, stores_element_so, stores_reference_so}

module _ (machine : Machine) (state : State) (frame : MethodFrame) (below : List Frame) (insn : Insn) (frames : state.roots.frames ≡ OfMethod frame ∷ below) where
  abbrev pub now : Now
  now = record { machine = machine; frame = frame; below = below; next = behind_in (code_at machine.program frame.method) frame.pc; state = state }

  abbrev pub here : Decoded
  here = decoded_as machine.program frame.method frame.pc insn

  -- of an instruction that goes on at the next place
  pub stands : (pc : ℕ) → now.next ≡ Some pc → StandsBefore now pc
  stands pc next = record { frames = frames; next = next }

  pub going_so : (pc : ℕ) → now.next ≡ Some pc → (left : Option Left) → left_to now pc left ≡ planned_as machine state (going_on here left)
  going_so pc next None = rw next refl
  going_so pc next (Some (Goes view)) = rw next refl
  going_so pc next (Some (Throws site)) = rw next refl

  pub rooted_so : (pc : ℕ) → now.next ≡ Some pc → (left : Option Roots) → steps_to now pc left ≡ planned_as machine state (going_on here (roots_left (view_of state) left))
  rooted_so pc next None = rw next refl
  rooted_so pc next (Some left) = rw next refl

  -- and of one whose next place doesn't matter
  abbrev pub anywhere : Now
  anywhere = record { machine = machine; frame = frame; below = below; next = Some 0; state = state }

  pub anywhere_stands : StandsBefore anywhere 0
  anywhere_stands = record { frames = frames; next = refl }

  framed : (left : Option FrameLeft) → frame_plan now left ≡ planned_as machine state (option_map (of_frame (view_of state)) left)
  framed None = refl
  framed (Some (Leaves roots)) = refl
  framed (Some ByZero) = refl

  -- the topmost frame alone
  pub plain_so : (pc target : ℕ) (action : Action) → now.next ≡ Some pc → is_plain action ≡ true
      → done now (operands.Branch target) action ≡ planned_as machine state (option_map (of_frame (view_of state)) (frame_left action (or_zero here.next) target state.roots))
  plain_so pc target action next plain =
      done_so now pc target action (stands pc next) plain
      ∙ framed (frame_left action pc target state.roots)
      ∙ ap (λ next. planned_as machine state (option_map (of_frame (view_of state)) (frame_left action (or_zero next) target state.roots))) (sym next)

  tested_so : (pc target : ℕ) (told : Option Bool) (left : Option Roots) → tests_to now pc target told left ≡ frame_plan now (tested_at pc target told left)
  tested_so pc target None left = refl
  tested_so pc target (Some is) None = refl
  tested_so pc target (Some is) (Some left) = refl

  pub same_so : (pc target : ℕ) (are : Bool) → now.next ≡ Some pc
      → branches now (conditions.AreSame are) (operands.Branch target)
      ≡ planned_as machine state (option_map (of_frame (view_of state)) (frame_left (actions.Branch (conditions.AreSame are)) (or_zero here.next) target state.roots))
  same_so pc target are next =
      tests_so now pc (stands pc next) (conditions.AreSame are) target
      ∙ tested_so pc target (told (conditions.AreSame are) state.roots) (behind_test (conditions.AreSame are) state.roots)
      ∙ framed (frame_left (actions.Branch (conditions.AreSame are)) pc target state.roots)
      ∙ ap (λ next. planned_as machine state (option_map (of_frame (view_of state)) (frame_left (actions.Branch (conditions.AreSame are)) (or_zero next) target state.roots))) (sym next)

  pub always_so : (pc target : ℕ)
      → branches now conditions.Always (operands.Branch target)
      ≡ planned_as machine state (option_map (of_frame (view_of state)) (frame_left (actions.Branch conditions.Always) pc target state.roots))
  always_so pc target = done_so anywhere 0 target (actions.Branch conditions.Always) anywhere_stands refl ∙ framed (frame_left (actions.Branch conditions.Always) pc target state.roots)

  -- constants that are numbers
  pub constant_so : (pc : ℕ) (value : Value) → now.next ≡ Some pc → named_here now ≡ meanings.Whole value
      → loads_constant now ≡ planned_as machine state (going_on here (roots_left (view_of state) (Some (pushed state.roots value))))
  constant_so pc value next names = whole_so now pc (stands pc next) value names ∙ rooted_so pc next (Some (pushed state.roots value))

  -- fields
  abbrev GetsFieldSo : Type 0
  GetsFieldSo = gets_field now ≡ planned_as machine state (on_field machine.program (λ slot basic. going_on here (behind_get_field slot basic (view_of state))) (named_here now))

  pub gets_field_so : (pc : ℕ) → now.next ≡ Some pc
      → gets_field now ≡ planned_as machine state (on_field machine.program (λ slot basic. going_on here (behind_get_field slot basic (view_of state))) (named_here now))
  gets_field_so pc next = go (named_here now) refl where
    of_basic : (class slot : ℕ) → named_here now ≡ meanings.Field class slot → (basic : Option Basic) → field_basic machine.program class slot ≡ basic → GetsFieldSo
    of_basic class slot names None is = rw (names, is) refl
    of_basic class slot names (Some basic) is =
        let same : planned_as machine state (on_field machine.program (λ slot basic. going_on here (behind_get_field slot basic (view_of state))) (named_here now))
        ≡ planned_as machine state (going_on here (behind_get_field slot basic (view_of state))) = rw (names, is) refl in
        gets_so now pc (stands pc next) class slot basic names is ∙ going_so pc next (behind_get_field slot basic (view_of state)) ∙ sym same

    go : (named : Named) → named_here now ≡ named → GetsFieldSo
    go (meanings.Field class slot) names = of_basic class slot names (field_basic machine.program class slot) refl
    go meanings.Nothing names = rw names refl
    go (meanings.Kind kind) names = rw names refl
    go (meanings.Static class slot) names = rw names refl
    go (meanings.Method method) names = rw names refl
    go (meanings.Text text) names = rw names refl
    go (meanings.Whole value) names = rw names refl

  abbrev PutsFieldSo : Type 0
  PutsFieldSo = puts_field now ≡ planned_as machine state (on_field machine.program (λ slot basic. going_on here (behind_put_field slot basic (view_of state))) (named_here now))

  pub puts_field_so : (pc : ℕ) → now.next ≡ Some pc
      → puts_field now ≡ planned_as machine state (on_field machine.program (λ slot basic. going_on here (behind_put_field slot basic (view_of state))) (named_here now))
  puts_field_so pc next = go (named_here now) refl where
    of_basic : (class slot : ℕ) → named_here now ≡ meanings.Field class slot → (basic : Option Basic) → field_basic machine.program class slot ≡ basic → PutsFieldSo
    of_basic class slot names None is = rw (names, is) refl
    of_basic class slot names (Some basic) is =
        let same : planned_as machine state (on_field machine.program (λ slot basic. going_on here (behind_put_field slot basic (view_of state))) (named_here now))
        ≡ planned_as machine state (going_on here (behind_put_field slot basic (view_of state))) = rw (names, is) refl in
        puts_so now pc (stands pc next) class slot basic names is ∙ going_so pc next (behind_put_field slot basic (view_of state)) ∙ sym same

    go : (named : Named) → named_here now ≡ named → PutsFieldSo
    go (meanings.Field class slot) names = of_basic class slot names (field_basic machine.program class slot) refl
    go meanings.Nothing names = rw names refl
    go (meanings.Kind kind) names = rw names refl
    go (meanings.Static class slot) names = rw names refl
    go (meanings.Method method) names = rw names refl
    go (meanings.Text text) names = rw names refl
    go (meanings.Whole value) names = rw names refl

  -- classes of objects
  pub casts_deed : (pc : ℕ) → now.next ≡ Some pc
      → casts now ≡ planned_as machine state (on_kind (λ kind. going_on here (behind_cast machine.program kind (view_of state))) (named_here now))
  casts_deed pc next = go (named_here now) refl where
    go : (named : Named) → named_here now ≡ named → casts now ≡ planned_as machine state (on_kind (λ kind. going_on here (behind_cast machine.program kind (view_of state))) (named_here now))
    go (meanings.Kind kind) names =
        let same : planned_as machine state (on_kind (λ kind. going_on here (behind_cast machine.program kind (view_of state))) (named_here now))
        ≡ planned_as machine state (going_on here (behind_cast machine.program kind (view_of state))) = rw names refl in
        casts_so now pc (stands pc next) kind names ∙ going_so pc next (behind_cast machine.program kind (view_of state)) ∙ sym same
    go meanings.Nothing names = rw names refl
    go (meanings.Field class slot) names = rw names refl
    go (meanings.Static class slot) names = rw names refl
    go (meanings.Method method) names = rw names refl
    go (meanings.Text text) names = rw names refl
    go (meanings.Whole value) names = rw names refl

  pub asks_deed : (pc : ℕ) → now.next ≡ Some pc
      → asks_kind now ≡ planned_as machine state (on_kind (λ kind. going_on here (behind_instance machine.program kind (view_of state))) (named_here now))
  asks_deed pc next = go (named_here now) refl where
    go : (named : Named) → named_here now ≡ named → asks_kind now ≡ planned_as machine state (on_kind (λ kind. going_on here (behind_instance machine.program kind (view_of state))) (named_here now))
    go (meanings.Kind kind) names =
        let same : planned_as machine state (on_kind (λ kind. going_on here (behind_instance machine.program kind (view_of state))) (named_here now))
        ≡ planned_as machine state (going_on here (behind_instance machine.program kind (view_of state))) = rw names refl in
        asks_so now pc (stands pc next) kind names ∙ going_so pc next (behind_instance machine.program kind (view_of state)) ∙ sym same
    go meanings.Nothing names = rw names refl
    go (meanings.Field class slot) names = rw names refl
    go (meanings.Static class slot) names = rw names refl
    go (meanings.Method method) names = rw names refl
    go (meanings.Text text) names = rw names refl
    go (meanings.Whole value) names = rw names refl

  pended_so : (left : Option Left) → pends_to now left ≡ planned_as machine state (option_map of_pended left)
  pended_so None = refl
  pended_so (Some (Goes view)) = refl
  pended_so (Some (Throws site)) = refl

  pub throws_deed : throws_object now ≡ planned_as machine state (option_map of_pended (behind_throw (view_of state)))
  throws_deed = throws_so anywhere 0 anywhere_stands ∙ pended_so (behind_throw (view_of state))

  -- elements of arrays
  on_stack : (depth array : ℕ) → slice_get frame.stack depth ≡ Some (values.Ref array) → object_on (view_of state) depth ≡ array
  on_stack depth array on = ap (λ stack. referred (slice_get stack depth)) (ap (on_top [] stack_in) frames) ∙ ap referred on

  some_basic : (sort : Sort) (element : Option Basic) → is_some element ≡ true → element ≡ Some (or_default sort element)
  some_basic sort None is = absurd (false≢true is)
  some_basic sort (Some basic) is = refl

  elements_so : (sort : Sort) (depth : ℕ) → HasElementsAt machine.program (view_of state) depth → HasElements now depth (basic_on machine.program sort (view_of state) depth)
  elements_so sort depth known array object on there =
      let found : object_in state.objects (object_on (view_of state) depth) ≡ Some object = ap (object_in state.objects) (on_stack depth array on) ∙ there in
      some_basic sort (element_of machine.program object.kind) (known object found)
      ∙ ap (λ object. Some (or_default sort (elements_of machine.program object))) (sym found)

  pub loads_deed : (pc : ℕ) (sort : Sort) → now.next ≡ Some pc → HasElementsAt machine.program (view_of state) 1
      → loads_element now ≡ planned_as machine state (loaded machine.program here (view_of state) sort)
  loads_deed pc sort next known =
      loads_element_so now pc (stands pc next) (basic_on machine.program sort (view_of state) 1) (elements_so sort 1 known)
      ∙ going_so pc next (behind_load_element (basic_on machine.program sort (view_of state) 1) (view_of state))

  pub stores_deed : (pc : ℕ) (elements : Elements) → now.next ≡ Some pc → HasElementsAt machine.program (view_of state) 2
      → stores_element now elements ≡ planned_as machine state (stored machine.program here (view_of state) (sort_of_elements elements))
  stores_deed pc elements next known =
      let basic = basic_on machine.program (sort_of_elements elements) (view_of state) 2 in
      stores_element_so now pc (stands pc next) elements basic (elements_so (sort_of_elements elements) 2 known)
      ∙ going_so pc next (behind_store_element (sort_of_elements elements) basic (view_of state))

  fits_deed : FitsArray now (fits_on machine.program (view_of state))
  fits_deed value array object first third there =
      let found : object_in state.objects (object_on (view_of state) 2) ≡ Some object = ap (object_in state.objects) (on_stack 2 array third) ∙ there in
      fits_so now (element_of machine.program object.kind) value
      ∙ ap (fits_serial machine.program state.objects (element_of machine.program object.kind)) (sym (on_stack 0 value first))
      ∙ ap (fits_array machine.program (view_of state)) (sym found)

  pub stores_reference_deed : (pc : ℕ) → now.next ≡ Some pc
      → stores_reference now ≡ planned_as machine state (going_on here (behind_store_reference (fits_on machine.program (view_of state)) (view_of state)))
  stores_reference_deed pc next =
      stores_reference_so now pc (stands pc next) (fits_on machine.program (view_of state)) fits_deed
      ∙ going_so pc next (behind_store_reference (fits_on machine.program (view_of state)) (view_of state))

  pub measures_deed : (pc : ℕ) → now.next ≡ Some pc → measures now ≡ planned_as machine state (going_on here (behind_length (view_of state)))
  measures_deed pc next = measures_so now pc (stands pc next) ∙ going_so pc next (behind_length (view_of state))

  -- returns
  returned_so : (left : Option Roots) → returns_as now left ≡ planned_as machine state (option_map (λ roots. Does (with_roots (view_of state) roots)) left)
  returned_so None = refl
  returned_so (Some left) = refl

  pub returns_deed : (sort : Option Sort) → returns now sort ≡ planned_as machine state (option_map (λ roots. Does (with_roots (view_of state) roots)) (behind_return machine.program sort state.roots))
  returns_deed sort = returns_so anywhere 0 anywhere_stands sort ∙ returned_so (behind_return machine.program sort state.roots)
