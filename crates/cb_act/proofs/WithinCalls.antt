-- References pass in calls, where they do in what natives give.
use Rattle.std.proofs.Common.{◌≡◌, refl, ℕ, Bool, true, false, List, [], ◌∷◌, ◌++◌, reverse, Option, Some, None}
use Rattle.std.specs.Prelude.{option_and_then}
use Rattle.std.specs.List.{flat_map}
use Rattle.cb_classfile.specs.declared.body.Body.{Body}
use Rattle.cb_classfile.specs.declared.method.Method.{Method}
use Rattle.cb_hierarchy.specs.declared.selected.Selected.{Selected}
use Rattle.cb_hierarchy.specs.declared.selected.Selected.TheVariants as chosen
use Rattle.cb_hierarchy.specs.Resolution.{is_private, method_is}
use Rattle.cb_library.specs.declared.native.Native.{Native}
use Rattle.cb_link.specs.Calls.{select}
use Rattle.cb_link.specs.Numbers.{Numbered, ranked_methods}
use Rattle.cb_link.specs.declared.named.Named.{Named}
use Rattle.cb_link.specs.declared.named.Named.TheVariants as meanings
use Rattle.cb_machine.specs.Arrays.{with_object}
use Rattle.cb_machine.specs.Calling.{answered, asked_sorts, invokes_interface, invokes_special, invokes_static, invokes_virtual}
use Rattle.cb_machine.specs.Machine.{class_declaring, method_numbered}
use Rattle.cb_machine.specs.Natives.{native_of, performed}
use Rattle.cb_machine.specs.Performing.{Performed, Gives, Stops}
use Rattle.cb_machine.specs.Plans.{Plan}
use Rattle.cb_machine.specs.Sites.{abstract_method, incompatible_class_change}
use Rattle.cb_machine.specs.Standing.{Now, named_here, taken, with_stack}
use Rattle.cb_plain.specs.declared.value.Value.{Value}
use Rattle.cb_plain.specs.declared.value.Value.TheVariants as values
use Rattle.cb_plain.specs.Reach.{frame_references, references_in}
use Rattle.cb_plain.specs.State.{MethodFrame, OfMethod}
use Rattle.cb_shapes.specs.declared.sort.Sort.TheVariants as sorts
use Rattle.cb_act.specs.Within.{GivenWithin, HasNumbers, NativesWithin, Pass, Within, WithinHere}
use Rattle.cb_act.proofs.KeptCalls.{by_body, by_method, by_native, without_body}
use Rattle.cb_act.proofs.WithinBasics.{both, framed, reverse_passes, taken_passes, then_within, throws_within}
use Rattle.cb_act.proofs.WithinFrames.{answers_pass}
use Rattle.cb_act.proofs.WithinInit.{entered_from_within, ready_within}
use Rattle.cb_act.proofs.WithinObjects.{on_within}

module _ (ok : ℕ → Bool) (now : Now) (here : WithinHere ok now) (numbers : HasNumbers ok now.machine.program) (natives : NativesWithin now.machine ok now.state) where
  -- natives
  given_within : (rest : List Value) → Pass ok (references_in rest) → (given : Option Performed) → GivenWithin ok given → Within ok (option_and_then (by_native now rest) given)
  given_within rest pass None is = tt
  given_within rest pass (Some (Stops plan)) is = is
  given_within rest pass (Some (Gives plan answer)) is = by (answered now.machine.program (with_stack now.frame rest) answer) refl where
    by : (frame : Option MethodFrame) → answered now.machine.program (with_stack now.frame rest) answer ≡ frame → Within ok (by_native now rest (Gives plan answer))
    by None at = rw at tt
    by (Some frame) at =
        rw at
        (record {
          roots = framed ok plan.left.roots (OfMethod frame ∷ now.below) is.0.roots
              (both ok (frame_references (OfMethod frame)) (flat_map frame_references now.below)
              (answers_pass ok now.machine.program (with_stack now.frame rest) answer frame is.1 (here.locals, pass) at) here.below);
          objects = is.0.objects;
          next = is.0.next;
          placed = is.0.placed;
        })

  bodiless_within : (arguments rest : List Value) → Pass ok (references_in arguments) → Pass ok (references_in rest) → (native : Option Native) → Within ok (without_body now arguments rest native)
  bodiless_within arguments rest held pass None = throws_within ok now.machine now.state abstract_method here.state
  bodiless_within arguments rest held pass (Some native) = given_within rest pass (performed now.machine now.state native arguments) (natives native arguments held)

  -- the frames below a method that is entered
  caller_passes : (rest : List Value) → Pass ok (references_in rest) → Pass ok (flat_map frame_references (OfMethod (with_stack now.frame rest) ∷ now.below))
  caller_passes rest pass =
      both ok (references_in now.frame.locals ++ references_in rest) (flat_map frame_references now.below)
      (both ok (references_in now.frame.locals) (references_in rest) here.locals pass) here.below

  body_within : (method : ℕ) (arguments rest : List Value) → Pass ok (references_in arguments) → Pass ok (references_in rest) → (body : Option Body)
      → Within ok (by_body now method arguments rest body)
  body_within method arguments rest held pass None = bodiless_within arguments rest held pass (native_of now.machine.program method)
  body_within method arguments rest held pass (Some body) =
      entered_from_within ok now.machine now.state now.state (OfMethod (with_stack now.frame rest) ∷ now.below) method arguments body here.state here.state (caller_passes rest pass) held

  method_within : (arguments rest : List Value) → Pass ok (references_in arguments) → Pass ok (references_in rest) → (selected : Selected) → Within ok (by_method now arguments rest selected)
  method_within arguments rest held pass (chosen.Method number) =
      then_within ok (λ (numbered : Numbered Method). by_body now number arguments rest numbered.member.body) (method_numbered now.machine.program number)
      (λ numbered is. body_within number arguments rest held pass numbered.member.body)
  method_within arguments rest held pass chosen.Abstract = throws_within ok now.machine now.state abstract_method here.state
  method_within arguments rest held pass chosen.Several = throws_within ok now.machine now.state incompatible_class_change here.state

  -- invokestatic
  abbrev invokes_ready : ℕ → Option Plan
  invokes_ready method =
      option_and_then (λ (taken : List Value × List Value). by_method now (reverse taken.0) taken.1 (chosen.Method method))
      (taken (asked_sorts now.machine.program method) now.frame.stack)

  invoked_within : (method : ℕ) → Within ok (invokes_ready method)
  invoked_within method =
      then_within ok (λ (taken : List Value × List Value). by_method now (reverse taken.0) taken.1 (chosen.Method method)) (taken (asked_sorts now.machine.program method) now.frame.stack)
      (λ found there.
      let own = taken_passes ok (asked_sorts now.machine.program method) now.frame.stack found.0 found.1 there here.stack in
      method_within (reverse found.0) found.1 (reverse_passes ok found.0 own.0) own.1 (chosen.Method method))

  pub invokes_static_within : Within ok (invokes_static now)
  invokes_static_within = go (named_here now) refl where
    of_class : (method : ℕ) → named_here now ≡ meanings.Method method → (class : Option ℕ) → class_declaring now.machine.program method ≡ class → Within ok (invokes_static now)
    of_class method is None declares = rw (is, declares) tt
    of_class method is (Some class) declares = rw (is, declares) (ready_within ok now.machine numbers now.state class (invokes_ready method) here.state (invoked_within method))

    go : (named : Named) → named_here now ≡ named → Within ok (invokes_static now)
    go meanings.Nothing is = rw is tt
    go (meanings.Kind kind) is = rw is tt
    go (meanings.Static class slot) is = rw is tt
    go (meanings.Field class slot) is = rw is tt
    go (meanings.Method method) is = of_class method is (class_declaring now.machine.program method) refl
    go (meanings.Text text) is = rw is tt
    go (meanings.Whole value) is = rw is tt

  -- calls on a receiver
  abbrev receives : (ℕ → Selected) → List Value → List Value → Option Plan
  receives choose (values.Ref serial ∷ arguments) rest =
      with_object now serial (λ object. by_method now (values.Ref serial ∷ arguments) rest (choose object.kind))
  receives choose other rest = None

  abbrev calls : (ℕ → Selected) → ℕ → Option Plan
  calls choose method =
      option_and_then (λ (taken : List Value × List Value). receives choose (reverse taken.0) taken.1)
      (taken (asked_sorts now.machine.program method ++ sorts.Reference ∷ []) now.frame.stack)

  received_within : (choose : ℕ → Selected) (held rest : List Value) → Pass ok (references_in held) → Pass ok (references_in rest) → Within ok (receives choose held rest)
  received_within choose [] rest all pass = tt
  received_within choose (values.Int n ∷ others) rest all pass = tt
  received_within choose (values.Long n ∷ others) rest all pass = tt
  received_within choose (values.Ref serial ∷ arguments) rest all pass =
      on_within ok now here serial (λ object. by_method now (values.Ref serial ∷ arguments) rest (choose object.kind))
      (λ object there. method_within (values.Ref serial ∷ arguments) rest all pass (choose object.kind))

  calls_within : (choose : ℕ → Selected) (method : ℕ) → Within ok (calls choose method)
  calls_within choose method =
      then_within ok (λ (taken : List Value × List Value). receives choose (reverse taken.0) taken.1)
      (taken (asked_sorts now.machine.program method ++ sorts.Reference ∷ []) now.frame.stack)
      (λ found there.
      let own = taken_passes ok (asked_sorts now.machine.program method ++ sorts.Reference ∷ []) now.frame.stack found.0 found.1 there here.stack in
      received_within choose (reverse found.0) found.1 (reverse_passes ok found.0 own.0) own.1)

  pub invokes_virtual_within : Within ok (invokes_virtual now)
  invokes_virtual_within = go (named_here now) refl where
    go : (named : Named) → named_here now ≡ named → Within ok (invokes_virtual now)
    go meanings.Nothing is = rw is tt
    go (meanings.Kind kind) is = rw is tt
    go (meanings.Static class slot) is = rw is tt
    go (meanings.Field class slot) is = rw is tt
    go (meanings.Method method) is = rw is (calls_within (λ kind. select now.machine.program kind method) method)
    go (meanings.Text text) is = rw is tt
    go (meanings.Whole value) is = rw is tt

  pub invokes_special_within : (index : ℕ) → Within ok (invokes_special now index)
  invokes_special_within index = go (named_here now) refl where
    go : (named : Named) → named_here now ≡ named → Within ok (invokes_special now index)
    go meanings.Nothing is = rw is tt
    go (meanings.Kind kind) is = rw is tt
    go (meanings.Static class slot) is = rw is tt
    go (meanings.Field class slot) is = rw is tt
    go (meanings.Method method) is = rw is (calls_within _ method)
    go (meanings.Text text) is = rw is tt
    go (meanings.Whole value) is = rw is tt

  pub invokes_interface_within : (index : ℕ) → Within ok (invokes_interface now index)
  invokes_interface_within index = go (named_here now) refl where
    of_private : (method : ℕ) → named_here now ≡ meanings.Method method → (private : Bool)
        → method_is (ranked_methods now.machine.program.classes) (λ own. is_private own.visibility) method ≡ private → Within ok (invokes_interface now index)
    of_private method is true own = rw (is, own) (throws_within ok now.machine now.state incompatible_class_change here.state)
    of_private method is false own = rw (is, own) (calls_within _ method)

    go : (named : Named) → named_here now ≡ named → Within ok (invokes_interface now index)
    go meanings.Nothing is = rw is tt
    go (meanings.Kind kind) is = rw is tt
    go (meanings.Static class slot) is = rw is tt
    go (meanings.Field class slot) is = rw is tt
    go (meanings.Method method) is =
        of_private method is (method_is (ranked_methods now.machine.program.classes) (λ own. is_private own.visibility) method) refl
    go (meanings.Text text) is = rw is tt
    go (meanings.Whole value) is = rw is tt
