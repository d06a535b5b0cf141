-- What any native does to changed objects is what it does, changed.
use Rattle.std.proofs.Common.{ℕ, Bool, List, Option}
use Rattle.cb_heap.specs.Kept.{is_held, keep, residents}
use Rattle.cb_library.specs.NativeForms.{form_of}
use Rattle.cb_library.specs.declared.native.Native.{Native}
use Rattle.cb_library.specs.declared.native.Native.TheVariants as natives
use Rattle.cb_library.specs.declared.native.NativeForm.{NativeForm}
use Rattle.cb_library.specs.declared.native.NativeForm.TheVariants as forms
use Rattle.cb_machine.specs.Answering.{answer_native}
use Rattle.cb_machine.specs.Boxes.{box_native}
use Rattle.cb_machine.specs.Builders.{own_native}
use Rattle.cb_machine.specs.Copying.{array_native}
use Rattle.cb_machine.specs.Machine.{Machine}
use Rattle.cb_machine.specs.Natives.{performed}
use Rattle.cb_machine.specs.Outside.{outside_native}
use Rattle.cb_machine.specs.Performing.{Call, Performed}
use Rattle.cb_machine.specs.Texts.{text_native}
use Rattle.cb_plain.specs.declared.value.Value.{Value}
use Rattle.cb_plain.specs.State.{State}
use Rattle.cb_act.specs.Changing.{Change, IsUnseen, NativesChange, changed_state}
use Rattle.cb_act.specs.Keeping.{IsKeeping, NativesCount, NativesKeep, any, matched}
use Rattle.cb_act.proofs.KeepLaws.{keep_unseen}
use Rattle.cb_act.proofs.KeptCounts.{matched_unseen}
use Rattle.cb_act.proofs.NativesAnswers.{answer_same}
use Rattle.cb_act.proofs.NativesArrays.{array_same}
use Rattle.cb_act.proofs.NativesBasics.{Changed, Held, Same, changed_call, own_call}
use Rattle.cb_act.proofs.NativesBoxes.{box_same}
use Rattle.cb_act.proofs.NativesBuilders.{own_same}
use Rattle.cb_act.proofs.NativesOutside.{constant_same, outside_native_same}
use Rattle.cb_act.proofs.NativesTexts.{text_same}

-- by form, but for the one that finds a constant of an enum
abbrev pub by_form : Call → Native → List Value → NativeForm → Option Performed
by_form call native arguments forms.Text = text_native call native arguments
by_form call native arguments forms.OwnFields = own_native call native arguments
by_form call native arguments forms.Table = box_native call native arguments
by_form call native arguments forms.Array = array_native call native arguments
by_form call native arguments forms.Outside = outside_native call native arguments
by_form call native arguments forms.Answer = answer_native call native arguments

module _ (it : Changed) where
  form_same : (native : Native) (arguments : List Value) → Held it arguments → (form : NativeForm)
      → Same it (by_form (changed_call it) native arguments form) (by_form (own_call it) native arguments form)
  form_same native arguments held forms.Text = text_same it native arguments held
  form_same native arguments held forms.OwnFields = own_same it native arguments held
  form_same native arguments held forms.Table = box_same it native arguments held
  form_same native arguments held forms.Array = array_same it native arguments held
  form_same native arguments held forms.Outside = outside_native_same it native arguments held
  form_same native arguments held forms.Answer = answer_same it native arguments held

  each_same : (native : Native) (arguments : List Value) → Held it arguments
      → Same it (performed it.machine (changed_state it.change it.state) native arguments) (performed it.machine it.state native arguments)
  each_same natives.EnumValueOf arguments held = constant_same it arguments held
  each_same native arguments held = form_same native arguments held (form_of native)

pub natives_change : (machine : Machine) (change : Change) (test : ℕ → Bool) (state : State) → IsUnseen change test state → NativesChange machine change test state
natives_change machine change test state unseen native arguments held =
    each_same (record { change = change; test = test; machine = machine; state = state; unseen = unseen }) native arguments held

pub natives_keep : (machine : Machine) (residents : List Bool) (state : State) → IsKeeping residents state → NativesKeep machine residents state
natives_keep machine residents state keeping =
    natives_change machine (keep residents) (is_held (keep residents state.objects)) state (keep_unseen residents state keeping)

pub natives_count : (machine : Machine) (state : State) → NativesCount machine state
natives_count machine state = natives_change machine (matched (residents state.objects)) any state (matched_unseen state)
