-- Where an instruction asks for a native, the machine's step is the performing of it.
use Rattle.std.proofs.Common.{◌≡◌, ◌∙◌, ap, arith, refl, sym, subst, ℕ, ◌+◌, Bool, true, false, List, [], ◌∷◌, ◌++◌, length, map, replicate, reverse, Option, Some, None, zero, suc}
use Rattle.std.proofs.lemmas.List.{length-append, length-map, length-reverse}
use Rattle.std.proofs.lemmas.Option.{same_Some}
use Rattle.std.specs.List.{list_all}
use Rattle.std.specs.Prelude.{option_and_then, option_map, slice_get, if◌then◌else◌}
use Rattle.cb_classfile.specs.declared.body.Body.{Body}
use Rattle.cb_classfile.specs.declared.method.Method.{Method}
use Rattle.cb_frames.specs.Tops.{on_top, pushed, stack_in, top_stack}
use Rattle.cb_hierarchy.specs.declared.selected.Selected.{Selected}
use Rattle.cb_hierarchy.specs.declared.selected.Selected.TheVariants as chosen
use Rattle.cb_insn.specs.declared.insn.Insn.{Insn}
use Rattle.cb_kinds.specs.declared.basic.Basic.{Basic}
use Rattle.cb_library.specs.declared.native.Native.{Native}
use Rattle.cb_link.specs.Calls.{class_of_kind, select}
use Rattle.cb_link.specs.Having.{parameters_at}
use Rattle.cb_link.specs.Special.{holder_named, special, special_by, special_named}
use Rattle.cb_link.specs.Decoding.{decoded_as}
use Rattle.cb_link.specs.Named.{code_at, insn_in}
use Rattle.cb_link.specs.Numbers.{Numbered, class_number}
use Rattle.cb_link.specs.Program.{Linked}
use Rattle.cb_link.specs.Slots.{field_basic, static_basic}
use Rattle.cb_link.specs.declared.decoded.Decoded.{Decoded}
use Rattle.cb_link.specs.declared.named.Named.{Named}
use Rattle.cb_link.specs.declared.named.Named.TheVariants as meanings
use Rattle.cb_machine.specs.Calling.{asked_sorts, by_method, calls, implementing, invokes_interface, invokes_special, invokes_static, invokes_virtual, is_private_method}
use Rattle.cb_machine.specs.Creating.{is_size}
use Rattle.cb_machine.specs.Machine.{Machine, class_declaring, method_numbered, or_zero}
use Rattle.cb_machine.specs.Natives.{native_of, performed}
use Rattle.cb_machine.specs.Standing.{Now, named_here, same_sort, taken}
use Rattle.cb_machine.specs.Values.{sort_of, sort_of_basic}
use Rattle.cb_safety.specs.Given.{RunsOn}
use Rattle.cb_machine.specs.Steps.{done, plan}
use Rattle.cb_plain.specs.Depth.{has_room}
use Rattle.cb_plain.specs.State.{Frame, MethodFrame, Object, OfMethod, Roots, State}
use Rattle.cb_plain.specs.Updates.{object_at}
use Rattle.cb_plain.specs.declared.class_state.ClassState.{ClassState}
use Rattle.cb_plain.specs.declared.class_state.ClassState.TheVariants as states
use Rattle.cb_plain.specs.declared.value.Value.{Value}
use Rattle.cb_plain.specs.declared.value.Value.TheVariants as values
use Rattle.cb_shapes.specs.Shapes.{action_of}
use Rattle.cb_shapes.specs.Sorts.{sort_of_elements}
use Rattle.cb_shapes.specs.declared.action.Action.{Action}
use Rattle.cb_shapes.specs.declared.action.Action.TheVariants as actions
use Rattle.cb_shapes.specs.declared.sort.Sort.{Sort}
use Rattle.cb_shapes.specs.declared.sort.Sort.TheVariants as sorts
use Rattle.cb_act.specs.Acting.{Asks, Deed, Does, acted, acted_as, basic_on, call_deed, constant_deed, fits_on, get_deed, going_on, holder_kind, interface_deed, need_of, new_deed, of_frame, of_left, of_pended, on_field, on_kind, on_method, on_static, or_need, put_deed, receiver_deed, roots_left, running, sized, static_deed, when_ready, with_receiver, with_roots}
use Rattle.cb_act.specs.Classes.{behind_cast, behind_instance, behind_throw}
use Rattle.cb_act.specs.Framing.{ByZero, FrameLeft, Leaves, frame_left}
use Rattle.cb_act.specs.Going.{behind_get_static, behind_put_static, behind_return}
use Rattle.cb_act.specs.Here.{Here, standing_here}
use Rattle.cb_act.specs.Objects.{Goes, Left, Throws, behind_get_field, behind_length, behind_load_element, behind_put_field, behind_store_element, behind_store_reference}
use Rattle.cb_act.specs.Steps.{view_of}
use Rattle.cb_act.specs.declared.need.Need.TheVariants as needs
use Rattle.cb_heap.specs.Reading.{View}
use Rattle.cb_act.proofs.Laws.{by_body, by_native, front, here, now, without_body}

-- the method of the native for which a deed asks
abbrev pub asks_native : Option Deed → Option ℕ
asks_native (Some (Asks (needs.Performs method))) = Some method
asks_native other = None

-- no native is asked for by what goes on, or stays
left_none : (next : Option ℕ) (left : Option Left) → asks_native (option_and_then (λ pc. option_map (of_left pc) left) next) ≡ None
left_none None left = refl
left_none (Some pc) None = refl
left_none (Some pc) (Some (Goes view)) = refl
left_none (Some pc) (Some (Throws site)) = refl

going_none : (decoded : Decoded) (left : Option Left) → asks_native (going_on decoded left) ≡ None
going_none decoded left = left_none decoded.next left

pended_none : (left : Option Left) → asks_native (option_map of_pended left) ≡ None
pended_none None = refl
pended_none (Some (Goes view)) = refl
pended_none (Some (Throws site)) = refl

framed_none : (view : View) (left : Option FrameLeft) → asks_native (option_map (of_frame view) left) ≡ None
framed_none view None = refl
framed_none view (Some (Leaves roots)) = refl
framed_none view (Some ByZero) = refl

returned_none : (view : View) (left : Option Roots) → asks_native (option_map (λ roots. Does (with_roots view roots)) left) ≡ None
returned_none view None = refl
returned_none view (Some roots) = refl

sized_none : (found : Option (List Value × List Value)) → asks_native (option_map sized found) ≡ None
sized_none None = refl
sized_none (Some found) = go (list_all is_size found.0) where
  go : (are : Bool) → asks_native (Some (if are then Asks needs.Makes else Asks (needs.Throws 19))) ≡ None
  go true = refl
  go false = refl

ready_none : (view : View) (class : ℕ) (ready : Option Deed) → asks_native ready ≡ None → asks_native (when_ready view class ready) ≡ None
ready_none view class ready none = go (slice_get view.roots.classes class) where
  go : (state : Option ClassState) → asks_native (option_and_then (λ state. or_need ready (need_of class state)) state) ≡ None
  go None = refl
  go (Some states.Untouched) = refl
  go (Some states.Failed) = refl
  go (Some states.Busy) = none
  go (Some states.Done) = none

constant_none : (decoded : Decoded) (view : View) (named : Named) → asks_native (constant_deed decoded view named) ≡ None
constant_none decoded view (meanings.Whole value) = going_none decoded (roots_left view (Some (pushed view.roots value)))
constant_none decoded view (meanings.Text text) = refl
constant_none decoded view (meanings.Kind kind) = refl
constant_none decoded view other = refl

field_none : (program : Linked) (go : ℕ → Basic → Option Deed) → ((slot : ℕ) (basic : Basic) → asks_native (go slot basic) ≡ None)
    → (named : Named) → asks_native (on_field program go named) ≡ None
field_none program go none (meanings.Field class slot) = by (field_basic program class slot) where
  by : (basic : Option Basic) → asks_native (option_and_then (go slot) basic) ≡ None
  by None = refl
  by (Some basic) = none slot basic
field_none program go none other = refl

kind_none : (go : ℕ → Option Deed) → ((kind : ℕ) → asks_native (go kind) ≡ None) → (named : Named) → asks_native (on_kind go named) ≡ None
kind_none go none (meanings.Kind kind) = none kind
kind_none go none other = refl

static_none : (go : ℕ → ℕ → Option Deed) → ((class slot : ℕ) → asks_native (go class slot) ≡ None) → (named : Named) → asks_native (on_static go named) ≡ None
static_none go none (meanings.Static class slot) = none class slot
static_none go none other = refl

get_none : (decoded : Decoded) (view : View) (class slot : ℕ) → asks_native (get_deed decoded view class slot) ≡ None
get_none decoded view class slot =
    ready_none view class (going_on decoded (roots_left view (behind_get_static slot view.roots))) (going_none decoded (roots_left view (behind_get_static slot view.roots)))

put_none : (program : Linked) (decoded : Decoded) (view : View) (class slot : ℕ) → asks_native (put_deed program decoded view class slot) ≡ None
put_none program decoded view class slot =
    ready_none view class (option_and_then (λ basic. going_on decoded (roots_left view (behind_put_static slot basic view.roots))) (static_basic program slot))
    (by (static_basic program slot)) where
      by : (basic : Option Basic) → asks_native (option_and_then (λ basic. going_on decoded (roots_left view (behind_put_static slot basic view.roots))) basic) ≡ None
      by None = refl
      by (Some basic) = going_none decoded (roots_left view (behind_put_static slot basic view.roots))

new_none : (program : Linked) (view : View) (kind : ℕ) → asks_native (new_deed program view kind) ≡ None
new_none program view kind = by (class_of_kind program kind) where
  by : (class : Option ℕ) → asks_native (option_and_then (λ class. when_ready view class (Some (Asks needs.Makes))) class) ≡ None
  by None = refl
  by (Some class) = ready_none view class (Some (Asks needs.Makes)) refl

-- a native is performed on so many values from the stack
pub record Performing (now : Now) (method : ℕ) : Type 0 where
  pub held : List Value
  pub rest : List Value
  pub native : Native
  pub stack : now.frame.stack ≡ held ++ rest
  pub is : native_of now.machine.program method ≡ Some native
  pub called : plan now.machine now.state ≡ by_method now (reverse held) rest (chosen.Method method)
  pub plans : plan now.machine now.state ≡ option_and_then (by_native now rest) (performed now.machine now.state native (reverse held))

-- with the instruction that names the native, or a method for which it is selected
pub record PerformingOn (now : Now) (insn : Insn) (method : ℕ) : Type 0 where
  pub performing : Performing now method
  pub action : Action
  pub acts : action_of insn ≡ Some action
  pub named : ℕ
  pub names : named_here now ≡ meanings.Method named
  pub runs : RunsOn now.machine.program now.state.objects now.frame.method named method (reverse performing.held) action

-- as many values are taken as sorts are asked for
abbrev with_value : Value → List Value × List Value → List Value × List Value
with_value value taken = (value ∷ taken.0, taken.1)

abbrev taken_by : Value → Bool → Option (List Value × List Value) → Option (List Value × List Value)
taken_by value true rest = option_map (with_value value) rest
taken_by value false rest = None

abbrev TakesSo : List Sort → List Value → Type 0
TakesSo asked stack = (held rest : List Value) → taken asked stack ≡ Some (held, rest) → length held ≡ length asked

abbrev counted_of : Option (List Value × List Value) → ℕ
counted_of None = 0
counted_of (Some found) = length found.0

counted_more : (sort : Sort) (asked : List Sort) (value : Value) (stack held rest : List Value) → TakesSo asked stack → (found : Option (List Value × List Value)) → taken asked stack ≡ found
    → option_map (with_value value) found ≡ Some (held, rest) → length held ≡ length (sort ∷ asked)
counted_more sort asked value stack held rest counted None there is = absurd (cc is)
counted_more sort asked value stack held rest counted (Some (more, left)) there is =
    let size : length (value ∷ more) ≡ length held = ap counted_of is in
    let same = counted more left there in
    omega (arith, size, same)

counted_by : (sort : Sort) (asked : List Sort) (value : Value) (stack held rest : List Value) → TakesSo asked stack → (test : Bool) → taken_by value test (taken asked stack) ≡ Some (held, rest)
    → length held ≡ length (sort ∷ asked)
counted_by sort asked value stack held rest counted true is = counted_more sort asked value stack held rest counted (taken asked stack) refl is
counted_by sort asked value stack held rest counted false is = absurd (cc is)

taken_count : (asked : List Sort) (stack : List Value) → TakesSo asked stack
taken_count [] stack held rest is = sym (ap counted_of is)
taken_count (sort ∷ asked) [] held rest is = absurd (cc is)
taken_count (sort ∷ asked) (value ∷ stack) held rest is =
    counted_by sort asked value stack held rest (taken_count asked stack) (same_sort (sort_of value) sort) is

module _ (machine : Machine) (state : State) (frame : MethodFrame) (below : List Frame) (insn : Insn) (frames : state.roots.frames ≡ OfMethod frame ∷ below) (method : ℕ) where
  abbrev at_now : Now
  at_now = now machine state frame below insn frames

  abbrev decoded : Decoded
  decoded = here machine state frame below insn frames

  abbrev Doing : Type 0
  Doing = PerformingOn at_now insn method

  -- how the method runs that a selection gives
  abbrev RunsSo : Action → ℕ → List Value → Selected → Type 0
  RunsSo action named held selected =
      (number : ℕ) → selected ≡ chosen.Method number → RunsOn machine.program state.objects frame.method named number (reverse held) action

  stack_is : top_stack state.roots ≡ frame.stack
  stack_is = ap (on_top [] stack_in) frames

  -- a deed that asks for none isn't the one
  never : (deed : Option Deed) → asks_native deed ≡ None → asks_native deed ≡ Some method → Doing
  never deed none asks = absurd (cc (sym none ∙ asks))

  -- of a method that was selected
  abbrev called_deed : List Value → ℕ → Option Deed
  called_deed held number = call_deed machine.program machine.frames (view_of state) (length held) (chosen.Method number)

  opened : (held rest : List Value) (number : ℕ) (numbered : Numbered Method) (native : Native) → method_numbered machine.program number ≡ Some numbered
      → numbered.member.body ≡ None → native_of machine.program number ≡ Some native
      → by_method at_now (reverse held) rest (chosen.Method number) ≡ option_and_then (by_native at_now rest) (performed machine state native (reverse held))
  opened held rest number numbered native there has is =
      ap (option_and_then (λ (numbered : Numbered Method). by_body at_now number (reverse held) rest numbered.member.body)) there
      ∙ ap (by_body at_now number (reverse held) rest) has ∙ ap (without_body at_now (reverse held) rest) is

  selected : (action : Action) (named : ℕ) → action_of insn ≡ Some action → named_here at_now ≡ meanings.Method named
      → (selected : Selected) (held rest : List Value) → RunsSo action named held selected → frame.stack ≡ held ++ rest
      → plan machine state ≡ by_method at_now (reverse held) rest selected
      → asks_native (call_deed machine.program machine.frames (view_of state) (length held) selected) ≡ Some method → Doing
  selected action named acts names chosen.Abstract held rest runs stack whole asks = absurd (cc asks)
  selected action named acts names chosen.Several held rest runs stack whole asks = absurd (cc asks)
  selected action named acts names (chosen.Method number) held rest runs stack whole asks = go (method_numbered machine.program number) refl where
    of_native : (numbered : Numbered Method) → method_numbered machine.program number ≡ Some numbered → numbered.member.body ≡ None
        → (native : Option Native) → native_of machine.program number ≡ native → Doing
    of_native numbered there has None is = never (called_deed held number) (rw (there, has, is) refl) asks
    of_native numbered there has (Some native) is =
        let own : asks_native (called_deed held number) ≡ Some number = rw (there, has, is) refl in
        subst (λ (method : ℕ). PerformingOn at_now insn method) (same_Some number method (sym own ∙ asks))
        (record {
          performing = record {
            held = held;
            rest = rest;
            native = native;
            stack = stack;
            is = is;
            called = whole;
            plans = whole ∙ opened held rest number numbered native there has is;
          };
          action = action;
          acts = acts;
          named = named;
          names = names;
          runs = runs number refl;
        })

    of_room : (numbered : Numbered Method) → method_numbered machine.program number ≡ Some numbered → (body : Body) → numbered.member.body ≡ Some body
        → (room : Bool) → has_room machine.frames state.roots.frames (body.max_locals + body.max_stack) ≡ room → Doing
    of_room numbered there body has true room = never (called_deed held number) (rw (there, has, room) refl) asks
    of_room numbered there body has false room = never (called_deed held number) (rw (there, has, room) refl) asks

    of_body : (numbered : Numbered Method) → method_numbered machine.program number ≡ Some numbered → (body : Option Body) → numbered.member.body ≡ body → Doing
    of_body numbered there None has = of_native numbered there has (native_of machine.program number) refl
    of_body numbered there (Some body) has = of_room numbered there body has (has_room machine.frames state.roots.frames (body.max_locals + body.max_stack)) refl

    go : (numbered : Option (Numbered Method)) → method_numbered machine.program number ≡ numbered → Doing
    go None there = never (called_deed held number) (rw there refl) asks
    go (Some numbered) there = of_body numbered there numbered.member.body refl

  -- as many arguments as there are parameters
  asked_count : (number : ℕ) → length (asked_sorts machine.program number) ≡ length (parameters_at machine.program number)
  asked_count number =
      length-reverse (map sort_of_basic (parameters_at machine.program number)) ∙ length-map (parameters_at machine.program number) sort_of_basic

  counted : (number : ℕ) (held rest : List Value) → taken (asked_sorts machine.program number) frame.stack ≡ Some (held, rest)
      → length (reverse held) ≡ length (parameters_at machine.program number)
  counted number held rest is = length-reverse held ∙ taken_count (asked_sorts machine.program number) frame.stack held rest is ∙ asked_count number

  counted_behind : (number : ℕ) (held rest arguments : List Value) (place : ℕ)
      → taken (asked_sorts machine.program number ++ sorts.Reference ∷ []) frame.stack ≡ Some (held, rest) → reverse held ≡ values.Ref (suc place) ∷ arguments
      → length arguments ≡ length (parameters_at machine.program number)
  counted_behind number held rest arguments place is are =
      let whole = taken_count (asked_sorts machine.program number ++ sorts.Reference ∷ []) frame.stack held rest is in
      omega (arith, whole, ap length are, length-reverse held, length-append (asked_sorts machine.program number) (sorts.Reference ∷ []), asked_count number)

  same_method : (one other : ℕ) → ◌≡◌ {A = Selected} (chosen.Method one) (chosen.Method other) → one ≡ other
  same_method one other is = cc is

  -- invokestatic
  abbrev static_asked : Option ℕ
  static_asked = asks_native (on_method (static_deed machine.program machine.frames (view_of state)) (named_here at_now))

  abbrev static_taken : ℕ → Option (List Value × List Value) → Option Deed
  static_taken number found =
      option_and_then (λ (taken : List Value × List Value). call_deed machine.program machine.frames (view_of state) (length taken.0) (chosen.Method number)) found

  of_static : (index : ℕ) → action_of insn ≡ Some (actions.InvokeStatic index) → plan machine state ≡ invokes_static at_now → static_asked ≡ Some method → Doing
  of_static index acts whole asks = go (named_here at_now) refl where
    none : static_asked ≡ None → Doing
    none is = absurd (cc (sym is ∙ asks))

    ready : (number : ℕ) → named_here at_now ≡ meanings.Method number → (found : Option (List Value × List Value)) → taken (asked_sorts machine.program number) frame.stack ≡ found
        → invokes_static at_now ≡ option_and_then (λ (taken : List Value × List Value). by_method at_now (reverse taken.0) taken.1 (chosen.Method number)) (taken (asked_sorts machine.program number) frame.stack)
        → static_asked ≡ asks_native (static_taken number (taken (asked_sorts machine.program number) (top_stack state.roots))) → Doing
    ready number names None there one other =
        none
        (other ∙ ap (λ stack. asks_native (static_taken number (taken (asked_sorts machine.program number) stack))) stack_is
        ∙ ap (λ found. asks_native (static_taken number found)) there)
    ready number names (Some found) there one other =
        selected (actions.InvokeStatic index) number acts names (chosen.Method number) found.0 found.1
        (λ own is. RunsOn.Statically index (same_method number own is) (counted number found.0 found.1 there))
        (front (asked_sorts machine.program number) frame.stack found.0 found.1 there)
        (whole ∙ one ∙ ap (option_and_then (λ (taken : List Value × List Value). by_method at_now (reverse taken.0) taken.1 (chosen.Method number))) there)
        (sym
        (other ∙ ap (λ stack. asks_native (static_taken number (taken (asked_sorts machine.program number) stack))) stack_is
        ∙ ap (λ found. asks_native (static_taken number found)) there)
        ∙ asks)

    of_state : (number class : ℕ) → named_here at_now ≡ meanings.Method number → class_declaring machine.program number ≡ Some class
        → (own : Option ClassState) → slice_get state.roots.classes class ≡ own → Doing
    of_state number class names declares None at = none (rw (names, declares, at) refl)
    of_state number class names declares (Some states.Untouched) at = none (rw (names, declares, at) refl)
    of_state number class names declares (Some states.Failed) at = none (rw (names, declares, at) refl)
    of_state number class names declares (Some states.Busy) at =
        ready number names (taken (asked_sorts machine.program number) frame.stack) refl (rw (names, declares, at) refl) (rw (names, declares, at) refl)
    of_state number class names declares (Some states.Done) at =
        ready number names (taken (asked_sorts machine.program number) frame.stack) refl (rw (names, declares, at) refl) (rw (names, declares, at) refl)

    of_class : (number : ℕ) → named_here at_now ≡ meanings.Method number → (class : Option ℕ) → class_declaring machine.program number ≡ class → Doing
    of_class number names None declares = none (rw (names, declares) refl)
    of_class number names (Some class) declares = of_state number class names declares (slice_get state.roots.classes class) refl

    go : (named : Named) → named_here at_now ≡ named → Doing
    go (meanings.Method number) names = of_class number names (class_declaring machine.program number) refl
    go meanings.Nothing names = none (rw names refl)
    go (meanings.Static class slot) names = none (rw names refl)
    go (meanings.Field class slot) names = none (rw names refl)
    go (meanings.Kind kind) names = none (rw names refl)
    go (meanings.Text text) names = none (rw names refl)
    go (meanings.Whole value) names = none (rw names refl)

  -- calls on a receiver
  abbrev receives : ℕ → List Value → Option (List Value × List Value)
  receives number stack = taken (asked_sorts machine.program number ++ sorts.Reference ∷ []) stack

  abbrev received : (ℕ → Selected) → Option (List Value × List Value) → Option Deed
  received choose found = option_and_then (with_receiver machine.program machine.frames (view_of state) choose) found

  abbrev RunsAll : Action → (ℕ → Selected) → ℕ → Type 0
  RunsAll action choose named =
      (place : ℕ) (object : Object) (others held : List Value) → reverse held ≡ values.Ref (suc place) ∷ others
      → length others ≡ length (parameters_at machine.program named) → object_at state (suc place) ≡ Some object → RunsSo action named held (choose object.kind)

  of_receiver : (action : Action) → action_of insn ≡ Some action → (choose : ℕ → Selected) (number : ℕ) → named_here at_now ≡ meanings.Method number
      → RunsAll action choose number → plan machine state ≡ calls at_now choose number
      → asks_native (receiver_deed machine.program machine.frames (view_of state) choose number) ≡ Some method → Doing
  of_receiver action acts choose number names runs whole asked = go (receives number frame.stack) refl where
    asks : asks_native (received choose (receives number frame.stack)) ≡ Some method
    asks = ap (λ stack. asks_native (received choose (receives number stack))) (sym stack_is) ∙ asked

    of_object : (held rest : List Value) → receives number frame.stack ≡ Some (held, rest) → (place : ℕ) (arguments : List Value) → reverse held ≡ values.Ref (suc place) ∷ arguments
        → (object : Option Object) → object_at state (suc place) ≡ object → Doing
    of_object held rest there place arguments are None is = never (received choose (receives number frame.stack)) (rw (there, are, is) refl) asks
    of_object held rest there place arguments are (Some object) is =
        let first : calls at_now choose number ≡ by_method at_now (reverse held) rest (choose object.kind) = rw (there, are, is) refl in
        let last : asks_native (received choose (receives number frame.stack))
        ≡ asks_native (call_deed machine.program machine.frames (view_of state) (length held) (choose object.kind)) = rw (there, are, is) refl in
        selected action number acts names (choose object.kind) held rest
        (runs place object arguments held are (counted_behind number held rest arguments place there are) is)
        (front (asked_sorts machine.program number ++ sorts.Reference ∷ []) frame.stack held rest there) (whole ∙ first) (sym last ∙ asks)

    of_values : (held rest : List Value) → receives number frame.stack ≡ Some (held, rest) → (arguments : List Value) → reverse held ≡ arguments → Doing
    of_values held rest there [] are = never (received choose (receives number frame.stack)) (rw (there, are) refl) asks
    of_values held rest there (values.Int n ∷ others) are = never (received choose (receives number frame.stack)) (rw (there, are) refl) asks
    of_values held rest there (values.Long n ∷ others) are = never (received choose (receives number frame.stack)) (rw (there, are) refl) asks
    of_values held rest there (values.Ref zero ∷ others) are = never (received choose (receives number frame.stack)) (rw (there, are) refl) asks
    of_values held rest there (values.Ref (suc place) ∷ others) are = of_object held rest there place others are (object_at state (suc place)) refl

    go : (found : Option (List Value × List Value)) → receives number frame.stack ≡ found → Doing
    go None there = never (received choose (receives number frame.stack)) (rw there refl) asks
    go (Some (held, rest)) there = of_values held rest there (reverse held) refl

  -- invokespecial and invokevirtual
  abbrev method_asked : (ℕ → Option Deed) → Option ℕ
  method_asked go = asks_native (on_method go (named_here at_now))

  of_special : (index : ℕ) → plan machine state ≡ invokes_special at_now index → action_of insn ≡ Some (actions.InvokeSpecial index)
      → insn_in (code_at machine.program frame.method) frame.pc ≡ Some insn
      → method_asked (receiver_deed machine.program machine.frames (view_of state) (λ kind. decoded.selected)) ≡ Some method → Doing
  of_special index whole so there asks = go (named_here at_now) refl where
    none : method_asked (receiver_deed machine.program machine.frames (view_of state) (λ kind. decoded.selected)) ≡ None → Doing
    none is = absurd (cc (sym is ∙ asks))

    special_is : (number : ℕ) → named_here at_now ≡ meanings.Method number
        → decoded.selected
        ≡ special machine.program number (class_declaring machine.program frame.method)
        (option_and_then (class_number machine.program.classes) (holder_named machine.program frame.method index))
    special_is number names =
        ap (λ (found : Option Action). special_by machine.program frame.method decoded.named found) (ap (option_and_then action_of) there ∙ so)
        ∙ ap (λ (named : Named). special_named machine.program (class_declaring machine.program frame.method)
        (option_and_then (class_number machine.program.classes) (holder_named machine.program frame.method index)) named) names

    go : (named : Named) → named_here at_now ≡ named → Doing
    go (meanings.Method number) names =
        let called : invokes_special at_now index ≡ calls at_now (λ kind. decoded.selected) number = rw (names, there, so) refl in
        let own : method_asked (receiver_deed machine.program machine.frames (view_of state) (λ kind. decoded.selected))
        ≡ asks_native (receiver_deed machine.program machine.frames (view_of state) (λ kind. decoded.selected) number) = rw names refl in
        of_receiver (actions.InvokeSpecial index) so (λ kind. decoded.selected) number names
        (λ place object others held are count kept own is. RunsOn.Specially index place object others are count kept (sym (special_is number names) ∙ is)) (whole ∙ called) (sym own ∙ asks)
    go meanings.Nothing names = none (rw names refl)
    go (meanings.Static class slot) names = none (rw names refl)
    go (meanings.Field class slot) names = none (rw names refl)
    go (meanings.Kind kind) names = none (rw names refl)
    go (meanings.Text text) names = none (rw names refl)
    go (meanings.Whole value) names = none (rw names refl)

  abbrev virtual_deed : ℕ → Option Deed
  virtual_deed number = receiver_deed machine.program machine.frames (view_of state) (λ kind. select machine.program kind number) number

  of_virtual : (index : ℕ) → action_of insn ≡ Some (actions.InvokeVirtual index) → plan machine state ≡ invokes_virtual at_now → method_asked (λ number. virtual_deed number) ≡ Some method → Doing
  of_virtual index so whole asks = go (named_here at_now) refl where
    none : method_asked (λ number. virtual_deed number) ≡ None → Doing
    none is = absurd (cc (sym is ∙ asks))

    go : (named : Named) → named_here at_now ≡ named → Doing
    go (meanings.Method number) names =
        let called : invokes_virtual at_now ≡ calls at_now (λ kind. select machine.program kind number) number = rw names refl in
        let own : method_asked (λ number. virtual_deed number) ≡ asks_native (virtual_deed number) = rw names refl in
        of_receiver (actions.InvokeVirtual index) so (λ kind. select machine.program kind number) number names
        (λ place object others held are count kept own is. RunsOn.Virtually index place object others are count kept is) (whole ∙ called) (sym own ∙ asks)
    go meanings.Nothing names = none (rw names refl)
    go (meanings.Static class slot) names = none (rw names refl)
    go (meanings.Field class slot) names = none (rw names refl)
    go (meanings.Kind kind) names = none (rw names refl)
    go (meanings.Text text) names = none (rw names refl)
    go (meanings.Whole value) names = none (rw names refl)

  -- invokeinterface
  abbrev interface_done : ℕ → Named → Option Deed
  interface_done index named = on_method (interface_deed machine.program machine.frames (view_of state) frame.method index) named

  abbrev interface_by : ℕ → Option ℕ → Option Deed
  interface_by index caller = option_and_then (λ caller. on_method (interface_deed machine.program machine.frames (view_of state) caller index) (named_here at_now)) caller

  runs_here : running state.roots ≡ Some frame.method
  runs_here = rw frames refl

  of_interface : (index count : ℕ) → action_of insn ≡ Some (actions.InvokeInterface index count) → plan machine state ≡ invokes_interface at_now index → asks_native (interface_by index (running state.roots)) ≡ Some method → Doing
  of_interface index count so whole asked = go (named_here at_now) refl where
    asks : asks_native (interface_done index (named_here at_now)) ≡ Some method
    asks = ap (λ (caller : Option ℕ). asks_native (interface_by index caller)) (sym runs_here) ∙ asked

    none : asks_native (interface_done index (named_here at_now)) ≡ None → Doing
    none is = absurd (cc (sym is ∙ asks))

    by : (number : ℕ) → named_here at_now ≡ meanings.Method number → (private : Bool) → is_private_method machine.program number ≡ private → Doing
    by number names true private = none (rw (names, private) refl)
    by number names false private =
        let choose = implementing machine.program number (holder_kind machine.program frame.method index) in
        let called : invokes_interface at_now index ≡ calls at_now choose number = rw (names, private) refl in
        let own : asks_native (interface_done index (named_here at_now)) ≡ asks_native (receiver_deed machine.program machine.frames (view_of state) choose number) = rw (names, private) refl in
        of_receiver (actions.InvokeInterface index count) so choose number names
        (λ place object others held are few kept own is. RunsOn.ByInterface index count place object others are few kept is) (whole ∙ called) (sym own ∙ asks)

    go : (named : Named) → named_here at_now ≡ named → Doing
    go (meanings.Method number) names = by number names (is_private_method machine.program number) refl
    go meanings.Nothing names = none (rw names refl)
    go (meanings.Static class slot) names = none (rw names refl)
    go (meanings.Field class slot) names = none (rw names refl)
    go (meanings.Kind kind) names = none (rw names refl)
    go (meanings.Text text) names = none (rw names refl)
    go (meanings.Whole value) names = none (rw names refl)

  abbrev deed : Action → Option Deed
  deed action = acted_as machine.program machine.frames decoded (view_of state) action

  -- no other instruction asks for one
  pub by_action : (action : Action) → action_of insn ≡ Some action → insn_in (code_at machine.program frame.method) frame.pc ≡ Some insn
      → plan machine state ≡ done at_now insn.operand action → asks_native (deed action) ≡ Some method → Doing
  by_action (actions.InvokeStatic index) so there whole asks = of_static index so whole asks
  by_action (actions.InvokeSpecial index) so there whole asks = of_special index whole so there asks
  by_action (actions.InvokeVirtual index) so there whole asks = of_virtual index so whole asks
  by_action (actions.InvokeInterface index count) so there whole asks = of_interface index count so whole asks
  by_action (actions.Constant index) so there whole asks = never (deed (actions.Constant index)) (constant_none decoded (view_of state) decoded.named) asks
  by_action actions.Switch so there whole asks = absurd (cc asks)
  by_action (actions.LoadNumber elements) so there whole asks =
      never (deed (actions.LoadNumber elements)) (going_none decoded (behind_load_element (basic_on machine.program (sort_of_elements elements) (view_of state) 1) (view_of state))) asks
  by_action (actions.StoreNumber elements) so there whole asks =
      never (deed (actions.StoreNumber elements)) (going_none decoded (behind_store_element (sort_of_elements elements) (basic_on machine.program (sort_of_elements elements) (view_of state) 2) (view_of state))) asks
  by_action actions.Length so there whole asks = never (deed actions.Length) (going_none decoded (behind_length (view_of state))) asks
  by_action actions.LoadReference so there whole asks =
      never (deed actions.LoadReference) (going_none decoded (behind_load_element (basic_on machine.program sorts.Reference (view_of state) 1) (view_of state))) asks
  by_action actions.StoreReference so there whole asks =
      never (deed actions.StoreReference) (going_none decoded (behind_store_reference (fits_on machine.program (view_of state)) (view_of state))) asks
  by_action (actions.GetField index) so there whole asks =
      never (deed (actions.GetField index)) (field_none machine.program (λ slot basic. going_on decoded (behind_get_field slot basic (view_of state))) (λ slot basic. going_none decoded (behind_get_field slot basic (view_of state))) decoded.named) asks
  by_action (actions.PutField index) so there whole asks =
      never (deed (actions.PutField index)) (field_none machine.program (λ slot basic. going_on decoded (behind_put_field slot basic (view_of state))) (λ slot basic. going_none decoded (behind_put_field slot basic (view_of state))) decoded.named) asks
  by_action (actions.GetStatic index) so there whole asks =
      never (deed (actions.GetStatic index)) (static_none (get_deed decoded (view_of state)) (get_none decoded (view_of state)) decoded.named) asks
  by_action (actions.PutStatic index) so there whole asks =
      never (deed (actions.PutStatic index)) (static_none (put_deed machine.program decoded (view_of state)) (put_none machine.program decoded (view_of state)) decoded.named) asks
  by_action (actions.New index) so there whole asks =
      never (deed (actions.New index)) (kind_none (new_deed machine.program (view_of state)) (new_none machine.program (view_of state)) decoded.named) asks
  by_action (actions.NewNumbers code) so there whole asks =
      never (deed (actions.NewNumbers code)) (sized_none (taken (replicate 1 sorts.Int) (top_stack state.roots))) asks
  by_action (actions.NewReferences index) so there whole asks =
      never (deed (actions.NewReferences index)) (sized_none (taken (replicate 1 sorts.Int) (top_stack state.roots))) asks
  by_action (actions.NewArrays index dimensions) so there whole asks =
      never (deed (actions.NewArrays index dimensions)) (sized_none (taken (replicate dimensions sorts.Int) (top_stack state.roots))) asks
  by_action (actions.Cast index) so there whole asks =
      never (deed (actions.Cast index)) (kind_none (λ kind. going_on decoded (behind_cast machine.program kind (view_of state))) (λ kind. going_none decoded (behind_cast machine.program kind (view_of state))) decoded.named) asks
  by_action (actions.IsInstance index) so there whole asks =
      never (deed (actions.IsInstance index)) (kind_none (λ kind. going_on decoded (behind_instance machine.program kind (view_of state))) (λ kind. going_none decoded (behind_instance machine.program kind (view_of state))) decoded.named) asks
  by_action actions.Throw so there whole asks = never (deed actions.Throw) (pended_none (behind_throw (view_of state))) asks
  by_action (actions.Return sort) so there whole asks =
      never (deed (actions.Return sort)) (returned_none (view_of state) (behind_return machine.program sort state.roots)) asks
  by_action action so there whole asks =
      never (deed action) (framed_none (view_of state) (frame_left action (or_zero decoded.next) (or_zero decoded.target) state.roots)) asks

pub native_runs : (machine : Machine) (state : State) (decoded : Decoded) (at : Here machine state decoded) (method : ℕ)
    → acted machine.program machine.frames decoded (view_of state) ≡ Some (Asks (needs.Performs method)) → PerformingOn (standing_here machine state decoded at) at.insn method
native_runs machine state decoded at method asks = go (action_of at.insn) refl where
  own : option_and_then (acted_as machine.program machine.frames (decoded_as machine.program at.frame.method at.frame.pc at.insn) (view_of state)) (action_of at.insn)
      ≡ Some (Asks (needs.Performs method))
  own = sym (ap (λ (decoded : Decoded). acted machine.program machine.frames decoded (view_of state)) at.is) ∙ asks

  go : (action : Option Action) → action_of at.insn ≡ action → PerformingOn (standing_here machine state decoded at) at.insn method
  go None does =
      let none : option_and_then (acted_as machine.program machine.frames (decoded_as machine.program at.frame.method at.frame.pc at.insn) (view_of state)) (action_of at.insn) ≡ None =
      ap (option_and_then (acted_as machine.program machine.frames (decoded_as machine.program at.frame.method at.frame.pc at.insn) (view_of state))) does in
      absurd (cc (sym none ∙ own))
  go (Some action) does =
      let whole : plan machine state ≡ done (now machine state at.frame at.below at.insn at.frames) at.insn.operand action = rw (at.runs, at.quiet, at.frames, at.there, does) refl in
      by_action machine state at.frame at.below at.insn at.frames method action does at.there whole
      (ap asks_native
      (sym (ap (option_and_then (acted_as machine.program machine.frames (decoded_as machine.program at.frame.method at.frame.pc at.insn) (view_of state))) does) ∙ own))

pub native_asked : (machine : Machine) (state : State) (decoded : Decoded) (at : Here machine state decoded) (method : ℕ)
    → acted machine.program machine.frames decoded (view_of state) ≡ Some (Asks (needs.Performs method)) → Performing (standing_here machine state decoded at) method
native_asked machine state decoded at method asks = (native_runs machine state decoded at method asks).performing
