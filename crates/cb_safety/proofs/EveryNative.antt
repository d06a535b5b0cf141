-- A typed state that calls any native of the library advances.
use Rattle.std.proofs.Common.{◌≡◌, refl, true, List, ◌∷◌}
use Rattle.cb_library.specs.NativeForms.{form_of}
use Rattle.cb_library.specs.declared.native.Native.{Native}
use Rattle.cb_library.specs.declared.native.Native.TheVariants as natives
use Rattle.cb_library.specs.declared.native.NativeForm.{NativeForm}
use Rattle.cb_library.specs.declared.native.NativeForm.TheVariants as forms
use Rattle.cb_machine.specs.Computing.{throws_by_zero}
use Rattle.cb_machine.specs.Machine.{Machine}
use Rattle.cb_machine.specs.Plans.{made}
use Rattle.cb_plain.specs.State.{Frame, MethodFrame, OfMethod, State}
use Rattle.cb_verify.specs.Typed.{IsTyped}
use Rattle.cb_safety.specs.Advancing.{Advances}
use Rattle.cb_safety.specs.Linked.{IsLinked}
use Rattle.cb_safety.specs.Natives.{CallsNative}
use Rattle.cb_safety.specs.Performing.{HasNatives}
use Rattle.cb_safety.specs.Ready.{BeginsTyped}
use Rattle.cb_safety.specs.Signatures.{is_of_answers, is_of_numbers}
use Rattle.cb_safety.specs.Sound.{IsSound}
use Rattle.cb_safety.specs.States.{IsTypedState}
use Rattle.cb_safety.proofs.Answering.{answers_advance, numbers_advance}
use Rattle.cb_safety.proofs.ArrayNatives.{arrays_advance}
use Rattle.cb_safety.proofs.Begun.{begins_typed}
use Rattle.cb_safety.proofs.Boxes.{boxes_advance}
use Rattle.cb_safety.proofs.Dividing.{division_typed}
use Rattle.cb_safety.proofs.EnumNatives.{constants_advance}
use Rattle.cb_safety.proofs.LinkedNatives.{has_natives}
use Rattle.cb_safety.proofs.Outside.{outside_advances}
use Rattle.cb_safety.proofs.SettingFields.{own_fields_advance}
use Rattle.cb_safety.proofs.Sound.{linked_sound}
use Rattle.cb_safety.proofs.Texts.{texts_advance}

-- natives that answer
data IsAnswer (native : Native) : Type 0 where
  OfNumbers : is_of_numbers native ≡ true → IsAnswer native
  OfAnswers : is_of_answers native ≡ true → IsAnswer native
  AConstant : native ≡ natives.EnumValueOf → IsAnswer native

is_answer : (native : Native) → form_of native ≡ forms.Answer → IsAnswer native
is_answer natives.MathAbsInt is = IsAnswer.OfNumbers refl
is_answer natives.MathAbsLong is = IsAnswer.OfNumbers refl
is_answer natives.MathMaxInt is = IsAnswer.OfNumbers refl
is_answer natives.MathMinInt is = IsAnswer.OfNumbers refl
is_answer natives.MathFloorDivInt is = IsAnswer.OfNumbers refl
is_answer natives.MathFloorModInt is = IsAnswer.OfNumbers refl
is_answer natives.MathMaxLong is = IsAnswer.OfNumbers refl
is_answer natives.MathMinLong is = IsAnswer.OfNumbers refl
is_answer natives.MathFloorDivLong is = IsAnswer.OfNumbers refl
is_answer natives.MathFloorModLong is = IsAnswer.OfNumbers refl
is_answer natives.IntegerCompare is = IsAnswer.OfNumbers refl
is_answer natives.LongCompare is = IsAnswer.OfNumbers refl
is_answer natives.IntegerParseInt is = IsAnswer.OfAnswers refl
is_answer natives.LongParseLong is = IsAnswer.OfAnswers refl
is_answer natives.IntegerIntValue is = IsAnswer.OfAnswers refl
is_answer natives.IntegerLongValue is = IsAnswer.OfAnswers refl
is_answer natives.IntegerHashCode is = IsAnswer.OfAnswers refl
is_answer natives.LongIntValue is = IsAnswer.OfAnswers refl
is_answer natives.LongLongValue is = IsAnswer.OfAnswers refl
is_answer natives.LongHashCode is = IsAnswer.OfAnswers refl
is_answer natives.CharacterCharValue is = IsAnswer.OfAnswers refl
is_answer natives.CharacterHashCode is = IsAnswer.OfAnswers refl
is_answer natives.BooleanBooleanValue is = IsAnswer.OfAnswers refl
is_answer natives.BooleanHashCode is = IsAnswer.OfAnswers refl
is_answer natives.IntegerEquals is = IsAnswer.OfAnswers refl
is_answer natives.LongEquals is = IsAnswer.OfAnswers refl
is_answer natives.CharacterEquals is = IsAnswer.OfAnswers refl
is_answer natives.BooleanEquals is = IsAnswer.OfAnswers refl
is_answer natives.IntegerCompareTo is = IsAnswer.OfAnswers refl
is_answer natives.LongCompareTo is = IsAnswer.OfAnswers refl
is_answer natives.CharacterCompareTo is = IsAnswer.OfAnswers refl
is_answer natives.BooleanCompareTo is = IsAnswer.OfAnswers refl
is_answer natives.StringLength is = IsAnswer.OfAnswers refl
is_answer natives.StringIsEmpty is = IsAnswer.OfAnswers refl
is_answer natives.StringHashCode is = IsAnswer.OfAnswers refl
is_answer natives.StringCharAt is = IsAnswer.OfAnswers refl
is_answer natives.StringEquals is = IsAnswer.OfAnswers refl
is_answer natives.StringIndexOfUnit is = IsAnswer.OfAnswers refl
is_answer natives.StringCompareTo is = IsAnswer.OfAnswers refl
is_answer natives.StringIndexOfString is = IsAnswer.OfAnswers refl
is_answer natives.StringStartsWith is = IsAnswer.OfAnswers refl
is_answer natives.StringEndsWith is = IsAnswer.OfAnswers refl
is_answer natives.StringBuilderLength is = IsAnswer.OfAnswers refl
is_answer natives.StringBuilderCharAt is = IsAnswer.OfAnswers refl
is_answer natives.ObjectHashCode is = IsAnswer.OfAnswers refl
is_answer natives.ObjectEquals is = IsAnswer.OfAnswers refl
is_answer natives.SystemIdentityHashCode is = IsAnswer.OfAnswers refl
is_answer natives.ClassDesiredAssertionStatus is = IsAnswer.OfAnswers refl
is_answer natives.Flush is = IsAnswer.OfAnswers refl
is_answer natives.EnumEquals is = IsAnswer.OfAnswers refl
is_answer natives.EnumHashCode is = IsAnswer.OfAnswers refl
is_answer natives.EnumCompareTo is = IsAnswer.OfAnswers refl
is_answer natives.EnumValueOf is = IsAnswer.AConstant refl
is_answer other is = absurd (cc is)

pub natives_advance : (machine : Machine) (state : State) (frame : MethodFrame) (below : List Frame) → IsLinked machine.program → IsTyped machine.program
    → IsTypedState machine.program state → state.roots.pending ≡ 0 → state.roots.frames ≡ OfMethod frame ∷ below → (calls : CallsNative machine state frame below)
    → Advances machine state
natives_advance machine state frame below linked fits typed runs frames calls = by (form_of calls.native) refl where
  has : HasNatives machine.program
  has = has_natives machine.program linked fits

  sound : IsSound machine.program
  sound = linked_sound machine.program linked fits

  divides : IsTypedState machine.program (made (throws_by_zero machine state))
  divides = division_typed machine state sound.constants sound.message sound.thrown typed

  begins : BeginsTyped machine state
  begins = begins_typed machine sound.constants state typed runs sound.thrown

  answers : IsAnswer calls.native → Advances machine state
  answers (IsAnswer.OfNumbers is) = numbers_advance machine state frame below has fits sound.spelled sound.holds_on typed runs frames calls divides is
  answers (IsAnswer.OfAnswers is) = answers_advance machine state frame below has fits sound.spelled sound.holds_on typed runs frames calls divides is
  answers (IsAnswer.AConstant same) = constants_advance machine state frame below has fits sound.spelled sound.holds_on typed runs frames calls begins same

  by : (form : NativeForm) → form_of calls.native ≡ form → Advances machine state
  by forms.Text is = texts_advance machine state frame below has fits sound.spelled sound.holds_on typed runs frames calls is
  by forms.OwnFields is = own_fields_advance machine state frame below has fits sound.spelled sound.holds_on typed runs frames calls is
  by forms.Table is = boxes_advance machine state frame below has fits sound.spelled sound.holds_on typed runs frames calls is
  by forms.Array is = arrays_advance machine state frame below has fits sound.spelled sound.holds_on typed runs frames calls is
  by forms.Outside is = outside_advances machine state frame below has fits sound.spelled sound.holds_on typed runs frames calls is
  by forms.Answer is = answers (is_answer calls.native is)
