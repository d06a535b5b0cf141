-- What any native gives names only what passes.
use Rattle.std.proofs.Common.{ℕ, Bool, List}
use Rattle.cb_library.specs.NativeForms.{form_of}
use Rattle.cb_library.specs.declared.native.Native.{Native}
use Rattle.cb_library.specs.declared.native.Native.TheVariants as natives
use Rattle.cb_library.specs.declared.native.NativeForm.{NativeForm}
use Rattle.cb_library.specs.declared.native.NativeForm.TheVariants as forms
use Rattle.cb_machine.specs.Machine.{Machine}
use Rattle.cb_machine.specs.Natives.{performed}
use Rattle.cb_plain.specs.declared.value.Value.{Value}
use Rattle.cb_plain.specs.State.{State}
use Rattle.cb_act.specs.Keeping.{IsKeeping, NativesNameKept, kept_or_new, kept_state}
use Rattle.cb_act.specs.Within.{IsWithin, NativesWithin}
use Rattle.cb_act.proofs.KeptAgain.{kept_within}
use Rattle.cb_act.proofs.NativesChange.{by_form}
use Rattle.cb_act.proofs.NativesWithinAnswers.{answer_within}
use Rattle.cb_act.proofs.NativesWithinArrays.{array_within}
use Rattle.cb_act.proofs.NativesWithinBasics.{AllPass, Given, Passing, call_in}
use Rattle.cb_act.proofs.NativesWithinBoxes.{box_within}
use Rattle.cb_act.proofs.NativesWithinBuilders.{own_within}
use Rattle.cb_act.proofs.NativesWithinOutside.{constant_within, outside_within}
use Rattle.cb_act.proofs.NativesWithinTexts.{text_within}

module _ (it : Passing) where
  form_within : (native : Native) (arguments : List Value) → AllPass it arguments → (form : NativeForm) → Given it (by_form (call_in it) native arguments form)
  form_within native arguments all forms.Text = text_within it native arguments
  form_within native arguments all forms.OwnFields = own_within it native arguments all
  form_within native arguments all forms.Table = box_within it native arguments
  form_within native arguments all forms.Array = array_within it native arguments all
  form_within native arguments all forms.Outside = outside_within it native arguments
  form_within native arguments all forms.Answer = answer_within it native arguments

  each_within : (native : Native) (arguments : List Value) → AllPass it arguments → Given it (performed it.machine it.state native arguments)
  each_within natives.EnumValueOf arguments all = constant_within it arguments
  each_within native arguments all = form_within native arguments all (form_of native)

pub natives_within : (ok : ℕ → Bool) (machine : Machine) (state : State) → IsWithin ok state → NativesWithin machine ok state
natives_within ok machine state is native arguments all = each_within (record { ok = ok; machine = machine; state = state; is = is }) native arguments all

pub natives_name_kept : (machine : Machine) (residents : List Bool) (state : State) → IsKeeping residents state → NativesNameKept machine residents state
natives_name_kept machine residents state keeping =
    natives_within (kept_or_new residents state) machine (kept_state residents state) (kept_within residents state keeping)
