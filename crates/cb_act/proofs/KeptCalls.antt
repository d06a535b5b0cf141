-- Calls, of a state of which only some objects are kept.
use Rattle.std.proofs.Common.{◌≡◌, ◌∙◌, ap, refl, ℕ, Bool, true, false, List, [], ◌∷◌, ◌++◌, length, reverse, Option, Some, None, IsTrue}
use Rattle.std.specs.Prelude.{option_and_then, option_map}
use Rattle.std.specs.List.{list_all}
use Rattle.std.proofs.lemmas.List.{reverse-append}
use Rattle.std.proofs.lemmas.Grind.{flat_map-append}
use Rattle.std.proofs.lemmas.List.Folds.{list_all-append}
use Rattle.cb_classfile.specs.declared.body.Body.{Body}
use Rattle.cb_classfile.specs.declared.method.Method.{Method}
use Rattle.cb_hierarchy.specs.declared.selected.Selected.{Selected}
use Rattle.cb_hierarchy.specs.declared.selected.Selected.TheVariants as chosen
use Rattle.cb_hierarchy.specs.Resolution.{is_private, method_is}
use Rattle.cb_library.specs.declared.native.Native.{Native}
use Rattle.cb_link.specs.Calls.{select}
use Rattle.cb_link.specs.Numbers.{Numbered, ranked_methods}
use Rattle.cb_link.specs.declared.named.Named.{Named}
use Rattle.cb_link.specs.declared.named.Named.TheVariants as meanings
use Rattle.cb_machine.specs.Arrays.{with_object}
use Rattle.cb_machine.specs.Calling.{answered, asked_sorts, invokes_interface, invokes_special, invokes_static, invokes_virtual}
use Rattle.cb_machine.specs.Entering.{entered_upon}
use Rattle.cb_machine.specs.Machine.{class_declaring, method_numbered}
use Rattle.cb_machine.specs.Natives.{native_of, performed}
use Rattle.cb_machine.specs.Performing.{Performed, Gives, Stops}
use Rattle.cb_machine.specs.Plans.{Plan, with_left}
use Rattle.cb_machine.specs.Sites.{abstract_method, incompatible_class_change}
use Rattle.cb_machine.specs.Standing.{Now, named_here, taken, with_stack}
use Rattle.cb_machine.specs.Throwing.{throws}
use Rattle.cb_plain.specs.declared.value.Value.{Value}
use Rattle.cb_plain.specs.declared.value.Value.TheVariants as values
use Rattle.cb_plain.specs.Reach.{reference_in, references_in}
use Rattle.cb_plain.specs.State.{MethodFrame, OfMethod}
use Rattle.cb_plain.specs.Updates.{with_frames}
use Rattle.cb_shapes.specs.declared.sort.Sort.TheVariants as sorts
use Rattle.cb_act.specs.Changing.{Change, Changes, IsHere, NativesChange, changed_now, changed_performed, changed_plan}
use Rattle.cb_act.proofs.KeptGoing.{then_kept, throws_kept}
use Rattle.cb_act.proofs.KeptInit.{entered_kept, ready_kept}
use Rattle.cb_act.proofs.KeptObjects.{on_kept, parts, taken_held, value_held}

-- what passes of values passes in another order
all_of : (test : ℕ → Bool) (one other : List ℕ) → IsTrue (list_all test one) → IsTrue (list_all test other) → IsTrue (list_all test (one ++ other))
all_of test one other first second = list_all-append test one other ∙ rw (first, second) refl

pub reversed_held : (test : ℕ → Bool) (held : List Value) → IsTrue (list_all test (references_in held)) → IsTrue (list_all test (references_in (reverse held)))
reversed_held test [] all = refl
reversed_held test (value ∷ held) all =
    let both = parts test (reference_in value) (references_in held) all in
    ap (λ values. list_all test (references_in values)) (reverse-append (value ∷ []) held)
    ∙ ap (list_all test) (flat_map-append reference_in (reverse held) (value ∷ []))
    ∙ all_of test (references_in (reverse held)) (reference_in value ++ []) (reversed_held test held both.1) (all_of test (reference_in value) [] both.0 refl)

-- what natives give
abbrev pub by_native : Now → List Value → Performed → Option Plan
by_native now rest (Stops plan) = Some plan
by_native now rest (Gives plan answer) =
    option_map (λ frame. with_left plan (with_frames plan.left (OfMethod frame ∷ now.below))) (answered now.machine.program (with_stack now.frame rest) answer)

native_kept : (change : Change) (now : Now) (rest : List Value) (given : Performed)
    → by_native (changed_now change now) rest (changed_performed change given) ≡ option_map (changed_plan change) (by_native now rest given)
native_kept change now rest (Stops plan) = refl
native_kept change now rest (Gives plan answer) = by (answered now.machine.program (with_stack now.frame rest) answer) refl where
  by : (frame : Option MethodFrame) → answered now.machine.program (with_stack now.frame rest) answer ≡ frame
      → by_native (changed_now change now) rest (changed_performed change (Gives plan answer)) ≡ option_map (changed_plan change) (by_native now rest (Gives plan answer))
  by None is = rw is refl
  by (Some frame) is = rw is refl

natives_kept : (change : Change) (now : Now) (rest : List Value) (found : Option Performed)
    → option_and_then (by_native (changed_now change now) rest) (option_map (changed_performed change) found)
    ≡ option_map (changed_plan change) (option_and_then (by_native now rest) found)
natives_kept change now rest None = refl
natives_kept change now rest (Some given) = native_kept change now rest given

abbrev pub without_body : Now → List Value → List Value → Option Native → Option Plan
without_body now arguments rest None = Some (throws now.machine now.state abstract_method)
without_body now arguments rest (Some native) = option_and_then (by_native now rest) (performed now.machine now.state native arguments)

abbrev pub by_body : Now → ℕ → List Value → List Value → Option Body → Option Plan
by_body now method arguments rest None = without_body now arguments rest (native_of now.machine.program method)
by_body now method arguments rest (Some body) =
    Some (entered_upon now.machine now.state (OfMethod (with_stack now.frame rest) ∷ now.below) method arguments body)

abbrev pub by_method : Now → List Value → List Value → Selected → Option Plan
by_method now arguments rest (chosen.Method number) =
    option_and_then (λ (numbered : Numbered Method). by_body now number arguments rest numbered.member.body) (method_numbered now.machine.program number)
by_method now arguments rest chosen.Abstract = Some (throws now.machine now.state abstract_method)
by_method now arguments rest chosen.Several = Some (throws now.machine now.state incompatible_class_change)

module _ (change : Change) (test : ℕ → Bool) (now : Now) (here : IsHere change test now) (natives : NativesChange now.machine change test now.state) where
  same : length (change now.state.objects) ≡ length now.state.objects
  same = here.unseen.count

  bodiless_kept : (arguments rest : List Value) → IsTrue (list_all test (references_in arguments)) → (native : Option Native)
      → Changes change now (λ now. without_body now arguments rest native)
  bodiless_kept arguments rest held None = ap Some (throws_kept change now.state same now.machine abstract_method)
  bodiless_kept arguments rest held (Some native) =
      ap (option_and_then (by_native (changed_now change now) rest)) (natives native arguments held)
      ∙ natives_kept change now rest (performed now.machine now.state native arguments)

  body_kept : (method : ℕ) (arguments rest : List Value) → IsTrue (list_all test (references_in arguments)) → (body : Option Body)
      → Changes change now (λ now. by_body now method arguments rest body)
  body_kept method arguments rest held None = bodiless_kept arguments rest held (native_of now.machine.program method)
  body_kept method arguments rest held (Some body) =
      ap Some (entered_kept change now.machine now.state same now.state same (OfMethod (with_stack now.frame rest) ∷ now.below) method arguments body)

  method_kept : (arguments rest : List Value) → IsTrue (list_all test (references_in arguments)) → (selected : Selected)
      → Changes change now (λ now. by_method now arguments rest selected)
  method_kept arguments rest held (chosen.Method number) =
      then_kept change (λ (numbered : Numbered Method). by_body (changed_now change now) number arguments rest numbered.member.body)
      (λ (numbered : Numbered Method). by_body now number arguments rest numbered.member.body)
      (λ numbered. body_kept number arguments rest held numbered.member.body) (method_numbered now.machine.program number)
  method_kept arguments rest held chosen.Abstract = ap Some (throws_kept change now.state same now.machine abstract_method)
  method_kept arguments rest held chosen.Several = ap Some (throws_kept change now.state same now.machine incompatible_class_change)

  -- invokestatic
  abbrev invokes_ready : Now → ℕ → Option Plan
  invokes_ready now method =
      option_and_then (λ (taken : List Value × List Value). by_method now (reverse taken.0) taken.1 (chosen.Method method))
      (taken (asked_sorts now.machine.program method) now.frame.stack)

  invoked_ready : (method : ℕ) → Changes change now (λ now. invokes_ready now method)
  invoked_ready method = go (taken (asked_sorts now.machine.program method) now.frame.stack) refl where
    go : (found : Option (List Value × List Value)) → taken (asked_sorts now.machine.program method) now.frame.stack ≡ found → Changes change now (λ now. invokes_ready now method)
    go None there = rw there refl
    go (Some (held, rest)) there =
        rw there
        (method_kept (reverse held) rest (reversed_held test held (taken_held change test now here (asked_sorts now.machine.program method) held rest there)) (chosen.Method method))

  pub invokes_static_kept : Changes change now invokes_static
  invokes_static_kept = go (named_here now) refl where
    of_class : (method : ℕ) → named_here now ≡ meanings.Method method → (class : Option ℕ) → class_declaring now.machine.program method ≡ class → Changes change now invokes_static
    of_class method is None declares = rw (is, declares) refl
    of_class method is (Some class) declares =
        rw (is, declares)
        (ready_kept change now.machine now.state same class (invokes_ready (changed_now change now) method) (invokes_ready now method) (invoked_ready method))

    go : (named : Named) → named_here now ≡ named → Changes change now invokes_static
    go meanings.Nothing is = rw is refl
    go (meanings.Kind kind) is = rw is refl
    go (meanings.Static class slot) is = rw is refl
    go (meanings.Field class slot) is = rw is refl
    go (meanings.Method method) is = of_class method is (class_declaring now.machine.program method) refl
    go (meanings.Text text) is = rw is refl
    go (meanings.Whole value) is = rw is refl

  -- calls on a receiver
  abbrev receives : Now → (ℕ → Selected) → List Value → List Value → Option Plan
  receives now choose (values.Ref serial ∷ arguments) rest =
      with_object now serial (λ object. by_method now (values.Ref serial ∷ arguments) rest (choose object.kind))
  receives now choose other rest = None

  abbrev calls : Now → (ℕ → Selected) → ℕ → Option Plan
  calls now choose method =
      option_and_then (λ (taken : List Value × List Value). receives now choose (reverse taken.0) taken.1)
      (taken (asked_sorts now.machine.program method ++ sorts.Reference ∷ []) now.frame.stack)

  received : (choose : ℕ → Selected) (held rest : List Value) → IsTrue (list_all test (references_in held)) → Changes change now (λ now. receives now choose held rest)
  received choose [] rest all = refl
  received choose (values.Int n ∷ others) rest all = refl
  received choose (values.Long n ∷ others) rest all = refl
  received choose (values.Ref serial ∷ arguments) rest all =
      on_kept change test now here serial
      (value_held test (values.Ref serial ∷ arguments) 0 serial refl all)
      (λ object. by_method (changed_now change now) (values.Ref serial ∷ arguments) rest (choose object.kind))
      (λ object. by_method now (values.Ref serial ∷ arguments) rest (choose object.kind))
      (λ object. method_kept (values.Ref serial ∷ arguments) rest all (choose object.kind))

  calls_kept : (choose : ℕ → Selected) (method : ℕ) → Changes change now (λ now. calls now choose method)
  calls_kept choose method = go (taken (asked_sorts now.machine.program method ++ sorts.Reference ∷ []) now.frame.stack) refl where
    go : (found : Option (List Value × List Value)) → taken (asked_sorts now.machine.program method ++ sorts.Reference ∷ []) now.frame.stack ≡ found
        → Changes change now (λ now. calls now choose method)
    go None there = rw there refl
    go (Some (held, rest)) there =
        rw there
        (received choose (reverse held) rest
        (reversed_held test held (taken_held change test now here (asked_sorts now.machine.program method ++ sorts.Reference ∷ []) held rest there)))

  pub invokes_virtual_kept : Changes change now invokes_virtual
  invokes_virtual_kept = go (named_here now) refl where
    go : (named : Named) → named_here now ≡ named → Changes change now invokes_virtual
    go meanings.Nothing is = rw is refl
    go (meanings.Kind kind) is = rw is refl
    go (meanings.Static class slot) is = rw is refl
    go (meanings.Field class slot) is = rw is refl
    go (meanings.Method method) is = rw is (calls_kept (λ kind. select now.machine.program kind method) method)
    go (meanings.Text text) is = rw is refl
    go (meanings.Whole value) is = rw is refl

  pub invokes_special_kept : (index : ℕ) → Changes change now (λ now. invokes_special now index)
  invokes_special_kept index = go (named_here now) refl where
    go : (named : Named) → named_here now ≡ named → Changes change now (λ now. invokes_special now index)
    go meanings.Nothing is = rw is refl
    go (meanings.Kind kind) is = rw is refl
    go (meanings.Static class slot) is = rw is refl
    go (meanings.Field class slot) is = rw is refl
    go (meanings.Method method) is = rw is (calls_kept _ method)
    go (meanings.Text text) is = rw is refl
    go (meanings.Whole value) is = rw is refl

  pub invokes_interface_kept : (index : ℕ) → Changes change now (λ now. invokes_interface now index)
  invokes_interface_kept index = go (named_here now) refl where
    of_private : (method : ℕ) → named_here now ≡ meanings.Method method → (private : Bool)
        → method_is (ranked_methods now.machine.program.classes) (λ own. is_private own.visibility) method ≡ private
        → Changes change now (λ now. invokes_interface now index)
    of_private method is true own = rw (is, own) (ap Some (throws_kept change now.state same now.machine incompatible_class_change))
    of_private method is false own = rw (is, own) (calls_kept _ method)

    go : (named : Named) → named_here now ≡ named → Changes change now (λ now. invokes_interface now index)
    go meanings.Nothing is = rw is refl
    go (meanings.Kind kind) is = rw is refl
    go (meanings.Static class slot) is = rw is refl
    go (meanings.Field class slot) is = rw is refl
    go (meanings.Method method) is =
        of_private method is (method_is (ranked_methods now.machine.program.classes) (λ own. is_private own.visibility) method) refl
    go (meanings.Text text) is = rw is refl
    go (meanings.Whole value) is = rw is refl
