-- Any native, beside another input and other printed bytes.
use Rattle.std.proofs.Common.{◌∙◌, ap, refl, ℕ, List, [], ◌∷◌, Option, Some, None}
use Rattle.std.specs.Prelude.{option_and_then, option_map, slice_get}
use Rattle.cb_library.specs.NativeForms.{form_of}
use Rattle.cb_library.specs.declared.native.Native.{Native}
use Rattle.cb_library.specs.declared.native.Native.TheVariants as natives
use Rattle.cb_library.specs.declared.native.NativeForm.{NativeForm}
use Rattle.cb_library.specs.declared.native.NativeForm.TheVariants as forms
use Rattle.cb_link.specs.Calls.{class_of_kind}
use Rattle.cb_machine.specs.Answering.{answer_native}
use Rattle.cb_machine.specs.Boxes.{box_native}
use Rattle.cb_machine.specs.Builders.{own_native}
use Rattle.cb_machine.specs.Copying.{array_native}
use Rattle.cb_machine.specs.Enums.{constant_named, finds_constant, gives_static, kind_of_number, of_class, once_class}
use Rattle.cb_machine.specs.Initialising.{once_ready}
use Rattle.cb_machine.specs.Natives.{performed}
use Rattle.cb_machine.specs.Outside.{outside_native}
use Rattle.cb_machine.specs.Performing.{Call, Performed, Stops, number_at, on_text, value_slot}
use Rattle.cb_machine.specs.Plans.{Plan}
use Rattle.cb_machine.specs.Texts.{text_native}
use Rattle.cb_plain.specs.declared.class_state.ClassState.{ClassState}
use Rattle.cb_plain.specs.declared.class_state.ClassState.TheVariants as states
use Rattle.cb_plain.specs.declared.value.Value.{Value}
use Rattle.cb_plain.specs.declared.value.Value.TheVariants as values
use Rattle.cb_beside.specs.Asking.{is_reader}
use Rattle.cb_beside.specs.Beside.{beside, performed_beside, plan_beside}
use Rattle.cb_beside.proofs.Goes.{GivesOne, plain}
use Rattle.cb_beside.proofs.Initial.{ready_same}
use Rattle.cb_beside.proofs.NativesAnswers.{answer_same}
use Rattle.cb_beside.proofs.NativesArrays.{array_same}
use Rattle.cb_beside.proofs.NativesBasics.{Alike, Apart, and_same, object_same, text_then, there}
use Rattle.cb_beside.proofs.NativesBoxes.{box_same}
use Rattle.cb_beside.proofs.NativesBuilders.{own_same}
use Rattle.cb_beside.proofs.NativesOutside.{Performs, call_at, outside_goes}
use Rattle.cb_beside.proofs.NativesTexts.{text_same}

-- the one that finds a constant of an enum
module _ (it : Apart) where
  static_same : (found : Option ℕ) → Alike it (gives_static (there it) found) (gives_static it.own found)
  static_same None = refl
  static_same (Some slot) = and_same it _ _ (slice_get it.own.state.roots.statics slot) (λ value. refl)

  stops_same : (found : Option Plan) → Alike it (option_map Stops (option_map (plan_beside it.input it.printed) found)) (option_map Stops found)
  stops_same None = refl
  stops_same (Some plan) = refl

  stopped_same : (class : ℕ)
      → Alike it (option_map Stops (once_ready it.own.machine (beside it.own.state it.input it.printed) class None)) (option_map Stops (once_ready it.own.machine it.own.state class None))
  stopped_same class =
      ap (option_map Stops) (ready_same it.input it.printed it.own.machine it.own.state class None None refl) ∙ stops_same (once_ready it.own.machine it.own.state class None)

  once_same : (class : ℕ) (one other : Option Performed) → Alike it one other → (state : ClassState)
      → Alike it (once_class (there it) class one state) (once_class it.own class other state)
  once_same class one other is states.Busy = is
  once_same class one other is states.Done = is
  once_same class one other is states.Untouched = stopped_same class
  once_same class one other is states.Failed = stopped_same class

  of_class_same : (name : ℕ) (class : Option ℕ) → Alike it (of_class (there it) name class) (of_class it.own name class)
  of_class_same name None = text_then it name _ _ (λ units. refl)
  of_class_same name (Some class) =
      and_same it _ _ (slice_get it.own.state.roots.classes class)
      (once_same class
      (on_text (there it) name (λ units. gives_static (there it) (constant_named it.own.machine.program class units)))
      (on_text it.own name (λ units. gives_static it.own (constant_named it.own.machine.program class units)))
      (text_then it name _ _ (λ units. static_same (constant_named it.own.machine.program class units))))

  constant_same : (arguments : List Value) → Alike it (finds_constant (there it) arguments) (finds_constant it.own arguments)
  constant_same (values.Ref class ∷ values.Ref name ∷ []) =
      object_same it class _ _
      (λ own. of_class_same name (option_and_then (class_of_kind it.own.machine.program) (option_and_then kind_of_number (number_at own value_slot))))
  constant_same arguments = refl

-- by form
abbrev by_form : Call → Native → List Value → NativeForm → Option Performed
by_form call native arguments forms.Text = text_native call native arguments
by_form call native arguments forms.OwnFields = own_native call native arguments
by_form call native arguments forms.Table = box_native call native arguments
by_form call native arguments forms.Array = array_native call native arguments
by_form call native arguments forms.Outside = outside_native call native arguments
by_form call native arguments forms.Answer = answer_native call native arguments

abbrev by_native : Call → Native → List Value → Option Performed
by_native call native arguments = performed call.machine call.state native arguments

module _ (call : Call) where
  abbrev apart : List ℕ → List ℕ → Apart
  apart input printed = record { own = call; input = input; printed = printed }

  silent : (native : Native) (performs : Call → Option Performed) → ((it : Apart) → Alike it (performs (there it)) (performs it.own))
      → Performs (is_reader (Some native)) call performs
  silent native performs same =
      plain performed_beside GivesOne call.state.input (is_reader (Some native)) (λ input printed. performs (call_at call input printed)) (performs call)
      (λ input printed. same (apart input printed))

  form_goes : (native : Native) (arguments : List Value) (form : NativeForm) → Performs (is_reader (Some native)) call (λ call. by_form call native arguments form)
  form_goes native arguments forms.Text = silent native (λ call. text_native call native arguments) (λ it. text_same it native arguments)
  form_goes native arguments forms.OwnFields = silent native (λ call. own_native call native arguments) (λ it. own_same it native arguments)
  form_goes native arguments forms.Table = silent native (λ call. box_native call native arguments) (λ it. box_same it native arguments)
  form_goes native arguments forms.Array = silent native (λ call. array_native call native arguments) (λ it. array_same it native arguments)
  form_goes native arguments forms.Outside = outside_goes call native arguments
  form_goes native arguments forms.Answer = silent native (λ call. answer_native call native arguments) (λ it. answer_same it native arguments)

  pub native_goes : (native : Native) (arguments : List Value) → Performs (is_reader (Some native)) call (λ call. by_native call native arguments)
  native_goes natives.EnumValueOf arguments = silent natives.EnumValueOf (λ call. finds_constant call arguments) (λ it. constant_same it arguments)
  native_goes native arguments = form_goes native arguments (form_of native)
