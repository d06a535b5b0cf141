-- What is done of an instruction on classes is the machine's step: on static fields, on what is made, and calls.
use Rattle.std.proofs.Common.{◌≡◌, ◌∙◌, ap, refl, sym, ℕ, ◌+◌, Bool, true, false, List, [], ◌∷◌, ◌++◌, length, replicate, reverse, Option, Some, None, zero, suc}
use Rattle.std.specs.List.{list_all}
use Rattle.std.specs.Prelude.{option_and_then, option_map, slice_get}
use Rattle.cb_classfile.specs.declared.body.Body.{Body}
use Rattle.cb_classfile.specs.declared.method.Method.{Method}
use Rattle.cb_frames.specs.Tops.{on_top, stack_in, top_stack}
use Rattle.cb_hierarchy.specs.declared.selected.Selected.{Selected}
use Rattle.cb_hierarchy.specs.declared.selected.Selected.TheVariants as chosen
use Rattle.cb_insn.specs.declared.insn.Insn.{Insn}
use Rattle.cb_kinds.specs.declared.basic.Basic.{Basic}
use Rattle.cb_library.specs.declared.native.Native.{Native}
use Rattle.cb_link.specs.Calls.{class_of_kind}
use Rattle.cb_link.specs.Numbers.{Numbered}
use Rattle.cb_link.specs.declared.decoded.Decoded.{Decoded}
use Rattle.cb_link.specs.Slots.{static_basic}
use Rattle.cb_link.specs.declared.named.Named.{Named}
use Rattle.cb_link.specs.declared.named.Named.TheVariants as meanings
use Rattle.cb_machine.specs.Calling.{asked_sorts, by_method, calls, invokes_static}
use Rattle.cb_machine.specs.Creating.{is_size, makes_arrays, makes_object}
use Rattle.cb_machine.specs.Fields.{gets_static_field, puts_static_field}
use Rattle.cb_machine.specs.Machine.{Machine, class_declaring, method_numbered}
use Rattle.cb_machine.specs.Natives.{native_of}
use Rattle.cb_machine.specs.Standing.{Now, named_here, taken}
use Rattle.cb_machine.specs.Steps.{plan}
use Rattle.cb_plain.specs.Depth.{has_room}
use Rattle.cb_plain.specs.State.{Frame, MethodFrame, Object, OfMethod, State}
use Rattle.cb_plain.specs.Updates.{object_at}
use Rattle.cb_plain.specs.declared.class_state.ClassState.{ClassState}
use Rattle.cb_plain.specs.declared.class_state.ClassState.TheVariants as states
use Rattle.cb_plain.specs.declared.value.Value.{Value}
use Rattle.cb_plain.specs.declared.value.Value.TheVariants as values
use Rattle.cb_shapes.specs.declared.sort.Sort.TheVariants as sorts
use Rattle.cb_act.specs.Acting.{arrays_deed, call_deed, enter_deed, get_deed, going_on, new_deed, on_kind, on_method, on_static, put_deed, receiver_deed, roots_left, sized, static_deed, with_receiver}
use Rattle.cb_act.specs.Going.{behind_get_static, behind_put_static, is_ready}
use Rattle.cb_act.specs.Here.{planned_as}
use Rattle.cb_act.specs.Steps.{entered_to, view_of}
use Rattle.cb_act.proofs.Acts.{anywhere, anywhere_stands, here, now, rooted_so, stands}
use Rattle.cb_act.proofs.GoingSteps.{gets_static_so, puts_static_so}
use Rattle.cb_act.proofs.ObjectSteps.{front}
use Rattle.cb_act.proofs.PlacingSteps.{enters_so}

module _ (machine : Machine) (state : State) (frame : MethodFrame) (below : List Frame) (insn : Insn) (frames : state.roots.frames ≡ OfMethod frame ∷ below) where
  abbrev at_now : Now
  at_now = now machine state frame below insn frames

  abbrev decoded : Decoded
  decoded = here machine state frame below insn frames

  stack_is : top_stack state.roots ≡ frame.stack
  stack_is = ap (on_top [] stack_in) frames

  -- static fields
  abbrev GetsStaticDeed : Type 0
  GetsStaticDeed = gets_static_field at_now ≡ planned_as machine state (on_static (get_deed decoded (view_of state)) (named_here at_now))

  pub gets_static_deed : (pc : ℕ) → at_now.next ≡ Some pc
      → gets_static_field at_now ≡ planned_as machine state (on_static (get_deed decoded (view_of state)) (named_here at_now))
  gets_static_deed pc next = go (named_here at_now) refl where
    ready : (class slot : ℕ) → named_here at_now ≡ meanings.Static class slot → (own : ClassState) → slice_get state.roots.classes class ≡ Some own → is_ready (Some own) ≡ true
        → planned_as machine state (on_static (get_deed decoded (view_of state)) (named_here at_now))
        ≡ planned_as machine state (going_on decoded (roots_left (view_of state) (behind_get_static slot state.roots))) → GetsStaticDeed
    ready class slot names own at is same =
        gets_static_so at_now pc (stands machine state frame below insn frames pc next) class slot names (ap is_ready at ∙ is)
        ∙ rooted_so machine state frame below insn frames pc next (behind_get_static slot state.roots) ∙ sym same

    of_state : (class slot : ℕ) → named_here at_now ≡ meanings.Static class slot → (own : Option ClassState) → slice_get state.roots.classes class ≡ own → GetsStaticDeed
    of_state class slot names None at = rw (names, at) refl
    of_state class slot names (Some states.Untouched) at = rw (names, at) refl
    of_state class slot names (Some states.Failed) at = rw (names, at) refl
    of_state class slot names (Some states.Busy) at = ready class slot names states.Busy at refl (rw (names, at) refl)
    of_state class slot names (Some states.Done) at = ready class slot names states.Done at refl (rw (names, at) refl)

    go : (named : Named) → named_here at_now ≡ named → GetsStaticDeed
    go (meanings.Static class slot) names = of_state class slot names (slice_get state.roots.classes class) refl
    go meanings.Nothing names = rw names refl
    go (meanings.Kind kind) names = rw names refl
    go (meanings.Field class slot) names = rw names refl
    go (meanings.Method method) names = rw names refl
    go (meanings.Text text) names = rw names refl
    go (meanings.Whole value) names = rw names refl

  abbrev PutsStaticDeed : Type 0
  PutsStaticDeed = puts_static_field at_now ≡ planned_as machine state (on_static (put_deed machine.program decoded (view_of state)) (named_here at_now))

  pub puts_static_deed : (pc : ℕ) → at_now.next ≡ Some pc
      → puts_static_field at_now ≡ planned_as machine state (on_static (put_deed machine.program decoded (view_of state)) (named_here at_now))
  puts_static_deed pc next = go (named_here at_now) refl where
    ready : (class slot : ℕ) → named_here at_now ≡ meanings.Static class slot → (own : ClassState) → slice_get state.roots.classes class ≡ Some own → is_ready (Some own) ≡ true
        → (basic : Basic) → static_basic machine.program slot ≡ Some basic
        → planned_as machine state (on_static (put_deed machine.program decoded (view_of state)) (named_here at_now))
        ≡ planned_as machine state (going_on decoded (roots_left (view_of state) (behind_put_static slot basic state.roots))) → PutsStaticDeed
    ready class slot names own at is basic typed same =
        puts_static_so at_now pc (stands machine state frame below insn frames pc next) class slot basic names (ap is_ready at ∙ is) typed
        ∙ rooted_so machine state frame below insn frames pc next (behind_put_static slot basic state.roots) ∙ sym same

    of_state : (class slot : ℕ) → named_here at_now ≡ meanings.Static class slot → (basic : Option Basic) → static_basic machine.program slot ≡ basic
        → (own : Option ClassState) → slice_get state.roots.classes class ≡ own → PutsStaticDeed
    of_state class slot names basic typed None at = rw (names, at) refl
    of_state class slot names basic typed (Some states.Untouched) at = rw (names, at) refl
    of_state class slot names basic typed (Some states.Failed) at = rw (names, at) refl
    of_state class slot names None typed (Some states.Busy) at = rw (names, at, typed) refl
    of_state class slot names None typed (Some states.Done) at = rw (names, at, typed) refl
    of_state class slot names (Some basic) typed (Some states.Busy) at = ready class slot names states.Busy at refl basic typed (rw (names, at, typed) refl)
    of_state class slot names (Some basic) typed (Some states.Done) at = ready class slot names states.Done at refl basic typed (rw (names, at, typed) refl)

    go : (named : Named) → named_here at_now ≡ named → PutsStaticDeed
    go (meanings.Static class slot) names = of_state class slot names (static_basic machine.program slot) refl (slice_get state.roots.classes class) refl
    go meanings.Nothing names = rw names refl
    go (meanings.Kind kind) names = rw names refl
    go (meanings.Field class slot) names = rw names refl
    go (meanings.Method method) names = rw names refl
    go (meanings.Text text) names = rw names refl
    go (meanings.Whole value) names = rw names refl

  -- what is made, if its class is ready and its sizes aren't negative
  abbrev MakesDeed : Type 0
  MakesDeed = makes_object at_now ≡ planned_as machine state (on_kind (new_deed machine.program (view_of state)) (named_here at_now))

  pub makes_deed : plan machine state ≡ makes_object at_now
      → makes_object at_now ≡ planned_as machine state (on_kind (new_deed machine.program (view_of state)) (named_here at_now))
  makes_deed whole = go (named_here at_now) refl where
    ready : planned_as machine state (on_kind (new_deed machine.program (view_of state)) (named_here at_now)) ≡ plan machine state → MakesDeed
    ready same = sym whole ∙ sym same

    of_state : (kind class : ℕ) → named_here at_now ≡ meanings.Kind kind → class_of_kind machine.program kind ≡ Some class
        → (own : Option ClassState) → slice_get state.roots.classes class ≡ own → MakesDeed
    of_state kind class names classed None at = rw (names, classed, at) refl
    of_state kind class names classed (Some states.Untouched) at = rw (names, classed, at) refl
    of_state kind class names classed (Some states.Failed) at = rw (names, classed, at) refl
    of_state kind class names classed (Some states.Busy) at = ready (rw (names, classed, at) refl)
    of_state kind class names classed (Some states.Done) at = ready (rw (names, classed, at) refl)

    of_class : (kind : ℕ) → named_here at_now ≡ meanings.Kind kind → (class : Option ℕ) → class_of_kind machine.program kind ≡ class → MakesDeed
    of_class kind names None classed = rw (names, classed) refl
    of_class kind names (Some class) classed = of_state kind class names classed (slice_get state.roots.classes class) refl

    go : (named : Named) → named_here at_now ≡ named → MakesDeed
    go (meanings.Kind kind) names = of_class kind names (class_of_kind machine.program kind) refl
    go meanings.Nothing names = rw names refl
    go (meanings.Static class slot) names = rw names refl
    go (meanings.Field class slot) names = rw names refl
    go (meanings.Method method) names = rw names refl
    go (meanings.Text text) names = rw names refl
    go (meanings.Whole value) names = rw names refl

  pub arrays_so : (dimensions : ℕ) → plan machine state ≡ makes_arrays at_now dimensions
      → makes_arrays at_now dimensions ≡ planned_as machine state (arrays_deed (view_of state) dimensions)
  arrays_so dimensions whole =
      go (taken (replicate dimensions sorts.Int) frame.stack) refl
      ∙ ap (λ stack. planned_as machine state (option_map sized (taken (replicate dimensions sorts.Int) stack))) (sym stack_is) where
        of_sizes : (found : List Value × List Value) → taken (replicate dimensions sorts.Int) frame.stack ≡ Some found → (are : Bool) → list_all is_size found.0 ≡ are
            → makes_arrays at_now dimensions ≡ planned_as machine state (option_map sized (taken (replicate dimensions sorts.Int) frame.stack))
        of_sizes found there false is = rw (there, is) refl
        of_sizes found there true is =
            let same : planned_as machine state (option_map sized (taken (replicate dimensions sorts.Int) frame.stack)) ≡ plan machine state = rw (there, is) refl in
            sym whole ∙ sym same

        go : (found : Option (List Value × List Value)) → taken (replicate dimensions sorts.Int) frame.stack ≡ found
            → makes_arrays at_now dimensions ≡ planned_as machine state (option_map sized (taken (replicate dimensions sorts.Int) frame.stack))
        go None there = rw there refl
        go (Some found) there = of_sizes found there (list_all is_size found.0) refl

  -- calls of a method that was selected
  enter_so : (method count : ℕ) (body : Body)
      → Some (entered_to at_now method count body) ≡ planned_as machine state (Some (enter_deed machine.frames (view_of state) method count body))
  enter_so method count body = go (has_room machine.frames state.roots.frames (body.max_locals + body.max_stack)) refl where
    go : (is : Bool) → has_room machine.frames state.roots.frames (body.max_locals + body.max_stack) ≡ is
        → Some (entered_to at_now method count body) ≡ planned_as machine state (Some (enter_deed machine.frames (view_of state) method count body))
    go false is = rw is refl
    go true is = rw is refl

  abbrev CalledSo : List Value → List Value → ℕ → Type 0
  CalledSo held rest method = by_method at_now (reverse held) rest (chosen.Method method) ≡ planned_as machine state (call_deed machine.program machine.frames (view_of state) (length held) (chosen.Method method))

  called_so : (selected : Selected) (held rest : List Value) → frame.stack ≡ held ++ rest → plan machine state ≡ by_method at_now (reverse held) rest selected
      → by_method at_now (reverse held) rest selected ≡ planned_as machine state (call_deed machine.program machine.frames (view_of state) (length held) selected)
  called_so chosen.Abstract held rest stack whole = refl
  called_so chosen.Several held rest stack whole = refl
  called_so (chosen.Method method) held rest stack whole = go (method_numbered machine.program method) refl where
    of_native : (numbered : Numbered Method) → method_numbered machine.program method ≡ Some numbered → numbered.member.body ≡ None
        → (native : Option Native) → native_of machine.program method ≡ native → CalledSo held rest method
    of_native numbered is has None performs = rw (is, has, performs) refl
    of_native numbered is has (Some native) performs =
        let same : planned_as machine state (call_deed machine.program machine.frames (view_of state) (length held) (chosen.Method method)) ≡ plan machine state = rw (is, has, performs) refl in
        sym whole ∙ sym same

    of_body : (numbered : Numbered Method) → method_numbered machine.program method ≡ Some numbered → (body : Option Body) → numbered.member.body ≡ body → CalledSo held rest method
    of_body numbered is None has = of_native numbered is has (native_of machine.program method) refl
    of_body numbered is (Some body) has =
        rw (is, has)
        (ap Some (enters_so (anywhere machine state frame below insn frames) 0 (anywhere_stands machine state frame below insn frames) method body held rest stack)
        ∙ enter_so method (length held) body)

    go : (numbered : Option (Numbered Method)) → method_numbered machine.program method ≡ numbered → CalledSo held rest method
    go None is = rw is refl
    go (Some numbered) is = of_body numbered is numbered.member.body refl

  -- invokestatic
  abbrev StaticSo : Type 0
  StaticSo = invokes_static at_now ≡ planned_as machine state (on_method (static_deed machine.program machine.frames (view_of state)) (named_here at_now))

  pub static_so : plan machine state ≡ invokes_static at_now
      → invokes_static at_now ≡ planned_as machine state (on_method (static_deed machine.program machine.frames (view_of state)) (named_here at_now))
  static_so whole = go (named_here at_now) refl where
    ready : (method : ℕ) → (found : Option (List Value × List Value)) → taken (asked_sorts machine.program method) frame.stack ≡ found
        → invokes_static at_now ≡ option_and_then (λ taken. by_method at_now (reverse taken.0) taken.1 (chosen.Method method)) (taken (asked_sorts machine.program method) frame.stack)
        → planned_as machine state (on_method (static_deed machine.program machine.frames (view_of state)) (named_here at_now))
        ≡ planned_as machine state (option_and_then (λ taken. call_deed machine.program machine.frames (view_of state) (length taken.0) (chosen.Method method)) (taken (asked_sorts machine.program method) (top_stack state.roots)))
        → StaticSo
    ready method None there one other =
        let first : invokes_static at_now ≡ None = one ∙ ap (option_and_then (λ taken. by_method at_now (reverse taken.0) taken.1 (chosen.Method method))) there in
        let last : planned_as machine state (on_method (static_deed machine.program machine.frames (view_of state)) (named_here at_now)) ≡ None =
        other ∙ ap (λ stack. planned_as machine state (option_and_then (λ taken. call_deed machine.program machine.frames (view_of state) (length taken.0) (chosen.Method method)) (taken (asked_sorts machine.program method) stack))) stack_is
        ∙ ap (λ found. planned_as machine state (option_and_then (λ taken. call_deed machine.program machine.frames (view_of state) (length taken.0) (chosen.Method method)) found)) there in
        first ∙ sym last
    ready method (Some found) there one other =
        let first : invokes_static at_now ≡ by_method at_now (reverse found.0) found.1 (chosen.Method method) =
        one ∙ ap (option_and_then (λ taken. by_method at_now (reverse taken.0) taken.1 (chosen.Method method))) there in
        let last : planned_as machine state (on_method (static_deed machine.program machine.frames (view_of state)) (named_here at_now))
        ≡ planned_as machine state (call_deed machine.program machine.frames (view_of state) (length found.0) (chosen.Method method)) =
        other ∙ ap (λ stack. planned_as machine state (option_and_then (λ taken. call_deed machine.program machine.frames (view_of state) (length taken.0) (chosen.Method method)) (taken (asked_sorts machine.program method) stack))) stack_is
        ∙ ap (λ found. planned_as machine state (option_and_then (λ taken. call_deed machine.program machine.frames (view_of state) (length taken.0) (chosen.Method method)) found)) there in
        first ∙ called_so (chosen.Method method) found.0 found.1 (front (asked_sorts machine.program method) frame.stack found.0 found.1 there) (whole ∙ first) ∙ sym last

    of_state : (method class : ℕ) → named_here at_now ≡ meanings.Method method → class_declaring machine.program method ≡ Some class
        → (own : Option ClassState) → slice_get state.roots.classes class ≡ own → StaticSo
    of_state method class names declares None at = rw (names, declares, at) refl
    of_state method class names declares (Some states.Untouched) at = rw (names, declares, at) refl
    of_state method class names declares (Some states.Failed) at = rw (names, declares, at) refl
    of_state method class names declares (Some states.Busy) at =
        ready method (taken (asked_sorts machine.program method) frame.stack) refl (rw (names, declares, at) refl) (rw (names, declares, at) refl)
    of_state method class names declares (Some states.Done) at =
        ready method (taken (asked_sorts machine.program method) frame.stack) refl (rw (names, declares, at) refl) (rw (names, declares, at) refl)

    of_class : (method : ℕ) → named_here at_now ≡ meanings.Method method → (class : Option ℕ) → class_declaring machine.program method ≡ class → StaticSo
    of_class method names None declares = rw (names, declares) refl
    of_class method names (Some class) declares = of_state method class names declares (slice_get state.roots.classes class) refl

    go : (named : Named) → named_here at_now ≡ named → StaticSo
    go (meanings.Method method) names = of_class method names (class_declaring machine.program method) refl
    go meanings.Nothing names = rw names refl
    go (meanings.Static class slot) names = rw names refl
    go (meanings.Field class slot) names = rw names refl
    go (meanings.Kind kind) names = rw names refl
    go (meanings.Text text) names = rw names refl
    go (meanings.Whole value) names = rw names refl

  -- calls on a receiver
  abbrev Took : ℕ → List Value → List Value → Type 0
  Took method held rest = taken (asked_sorts machine.program method ++ sorts.Reference ∷ []) frame.stack ≡ Some (held, rest)

  abbrev ReceiverSo : (ℕ → Selected) → ℕ → Type 0
  ReceiverSo choose method = calls at_now choose method
      ≡ planned_as machine state (option_and_then (with_receiver machine.program machine.frames (view_of state) choose) (taken (asked_sorts machine.program method ++ sorts.Reference ∷ []) frame.stack))

  pub receiver_so : (choose : ℕ → Selected) (method : ℕ) → plan machine state ≡ calls at_now choose method
      → calls at_now choose method ≡ planned_as machine state (receiver_deed machine.program machine.frames (view_of state) choose method)
  receiver_so choose method whole =
      go (taken (asked_sorts machine.program method ++ sorts.Reference ∷ []) frame.stack) refl
      ∙ ap (λ stack. planned_as machine state (option_and_then (with_receiver machine.program machine.frames (view_of state) choose) (taken (asked_sorts machine.program method ++ sorts.Reference ∷ []) stack))) (sym stack_is) where
        of_object : (held rest : List Value) → Took method held rest → (place : ℕ) (arguments : List Value) → reverse held ≡ values.Ref (suc place) ∷ arguments
            → (object : Option Object) → object_at state (suc place) ≡ object → ReceiverSo choose method
        of_object held rest there place arguments are None is = rw (there, are, is) refl
        of_object held rest there place arguments are (Some object) is =
            let first : calls at_now choose method ≡ by_method at_now (reverse held) rest (choose object.kind) =
            rw (there, are, is) refl in
            let last : planned_as machine state (option_and_then (with_receiver machine.program machine.frames (view_of state) choose) (taken (asked_sorts machine.program method ++ sorts.Reference ∷ []) frame.stack))
            ≡ planned_as machine state (call_deed machine.program machine.frames (view_of state) (length held) (choose object.kind)) = rw (there, are, is) refl in
            first ∙ called_so (choose object.kind) held rest (front (asked_sorts machine.program method ++ sorts.Reference ∷ []) frame.stack held rest there) (whole ∙ first) ∙ sym last

        of_receiver : (held rest : List Value) → Took method held rest → (arguments : List Value) → reverse held ≡ arguments → ReceiverSo choose method
        of_receiver held rest there [] are = rw (there, are) refl
        of_receiver held rest there (values.Int n ∷ others) are = rw (there, are) refl
        of_receiver held rest there (values.Long n ∷ others) are = rw (there, are) refl
        of_receiver held rest there (values.Ref zero ∷ others) are = rw (there, are) refl
        of_receiver held rest there (values.Ref (suc place) ∷ others) are = of_object held rest there place others are (object_at state (suc place)) refl

        go : (found : Option (List Value × List Value)) → taken (asked_sorts machine.program method ++ sorts.Reference ∷ []) frame.stack ≡ found → ReceiverSo choose method
        go None there = rw there refl
        go (Some (held, rest)) there = of_receiver held rest there (reverse held) refl
