-- The natives for which instructions ask: which form asks for a collection, and what those print that print.
use Rattle.std.proofs.Common.{◌≡◌, ◌∙◌, ap, ap₂, refl, subst, sym, ℕ, ◌||◌, Bool, true, false, Option, Some, None}
use Rattle.std.specs.Prelude.{is_some}
use Rattle.std.proofs.lemmas.Bool.{false≢true}
use Rattle.std.proofs.lemmas.Option.{none-some, same_Some}
use Rattle.cb_act.specs.Acting.{Asks, acted}
use Rattle.cb_act.specs.Here.{Here, standing_here}
use Rattle.cb_act.specs.Steps.{view_of}
use Rattle.cb_act.specs.declared.need.Need.TheVariants as needs
use Rattle.cb_heap.specs.Reading.{View}
use Rattle.cb_library.specs.NativeForms.{form_of}
use Rattle.cb_library.specs.declared.native.Native.{Native}
use Rattle.cb_library.specs.declared.native.Native.TheVariants as natives
use Rattle.cb_library.specs.declared.native.NativeForm.{NativeForm}
use Rattle.cb_library.specs.declared.native.NativeForm.TheVariants as forms
use Rattle.cb_link.specs.Program.{Linked}
use Rattle.cb_link.specs.declared.decoded.Decoded.{Decoded}
use Rattle.cb_machine.specs.Machine.{Machine}
use Rattle.cb_machine.specs.Natives.{native_of}
use Rattle.cb_plain.specs.State.{State}
use Rattle.cb_interp.specs.Performed.{AsksNative}
use Rattle.cb_interp.specs.Printing.{is_print, line_of, native_as, native_text, print_of}
use Rattle.cb_interp.specs.declared.printing.Print.{Print}
use Rattle.cb_interp.specs.declared.printing.Print.TheVariants as prints
use Rattle.cb_interp.proofs.TurnsNative.{Performing, native_asked}

-- ---- only a native that reaches what is outside the heap asks for a collection

abbrev is_outside : NativeForm → Bool
is_outside forms.Outside = true
is_outside other = false

pub inside : (native : Native) (form : NativeForm) → form_of native ≡ form → is_outside form ≡ false → native ≡ natives.SystemGc → ⊥
inside native form is other same = false≢true (sym other ∙ ap is_outside (sym is ∙ ap form_of same))

-- ---- what is printed

as_print : (one other : Print) → ◌≡◌ {A = Option Print} (Some one) (Some other) → native_as one ≡ native_as other
as_print one other is = ap native_as (same_Some one other is)

pub printed_as : (native : Native) (print : Print) → print_of native ≡ Some print → native ≡ native_as print
printed_as natives.PrintBoolean print is = as_print (prints.Truth false) print is
printed_as natives.PrintlnBoolean print is = as_print (prints.Truth true) print is
printed_as natives.PrintChar print is = as_print (prints.Char false) print is
printed_as natives.PrintlnChar print is = as_print (prints.Char true) print is
printed_as natives.PrintInt print is = as_print (prints.Int false) print is
printed_as natives.PrintlnInt print is = as_print (prints.Int true) print is
printed_as natives.PrintLong print is = as_print (prints.Long false) print is
printed_as natives.PrintlnLong print is = as_print (prints.Long true) print is
printed_as natives.Println print is = as_print prints.Line print is
printed_as other print is = absurd (cc is)

pub text_as : (native : Native) (line : Bool) → line_of native ≡ Some line → native ≡ native_text line
text_as natives.PrintString line is = ap native_text (same_Some false line is)
text_as natives.PrintlnString line is = ap native_text (same_Some true line is)
text_as other line is = absurd (cc is)

pub prints_one : (native : Native) → is_print native ≡ true → print_of native ≡ None → line_of native ≡ None → ⊥
prints_one native is none never = false≢true (sym (ap₂ (λ (print : Option Print) (line : Option Bool). is_some print || is_some line) none never) ∙ is)

-- ---- the native for which an instruction asks

pub asks_same : {program : Linked} {limit : ℕ} {decoded : Decoded} {view : View} {one other : Native} → one ≡ other → AsksNative program limit decoded view one
    → AsksNative program limit decoded view other
asks_same {program} {limit} {decoded} {view} same asks = subst (AsksNative program limit decoded view) same asks

module _ (machine : Machine) (state : State) (decoded : Decoded) (at : Here machine state decoded) (method : ℕ)
    (asks : acted machine.program machine.frames decoded (view_of state) ≡ Some (Asks (needs.Performs method))) where
  performing : Performing (standing_here machine state decoded at) method
  performing = native_asked machine state decoded at method asks

  pub never_none : native_of machine.program method ≡ None → ⊥
  never_none none = none-some performing.native (sym none ∙ performing.is)
