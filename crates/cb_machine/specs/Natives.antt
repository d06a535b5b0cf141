-- Which native a method is, by the library's table, and what it gives.
use Rattle.std.specs.Prelude.{ℕ, List, Option, Some, None, option_and_then, slice_get}
use Rattle.cb_library.specs.CoreClasses.{core_classes}
use Rattle.cb_library.specs.NativeForms.{form_of}
use Rattle.cb_library.specs.Rows.{Kind, Performed as PerformedBy}
use Rattle.cb_library.specs.declared.native.Native.{Native}
use Rattle.cb_library.specs.declared.native.Native.TheVariants as natives
use Rattle.cb_library.specs.declared.native.NativeForm.{NativeForm}
use Rattle.cb_library.specs.declared.native.NativeForm.TheVariants.{Text, OwnFields, Table, Array, Outside, Answer}
use Rattle.cb_link.specs.Program.{Linked}
use Rattle.cb_plain.specs.declared.value.Value.{Value}
use Rattle.cb_plain.specs.State.{State}
use Rattle.cb_machine.specs.Answering.{answer_native}
use Rattle.cb_machine.specs.Boxes.{box_native}
use Rattle.cb_machine.specs.Builders.{own_native}
use Rattle.cb_machine.specs.Copying.{array_native}
use Rattle.cb_machine.specs.Enums.{finds_constant}
use Rattle.cb_machine.specs.Machine.{Machine}
use Rattle.cb_machine.specs.Outside.{outside_native}
use Rattle.cb_machine.specs.Performing.{Call, Performed}
use Rattle.cb_machine.specs.Texts.{text_native}

-- the row of a method has the class's number and the method's place in its class
abbrev pub native_in : Kind → Option Native
native_in (PerformedBy native) = Some native
native_in other = None

abbrev pub native_at : ℕ → ℕ → Option Native
native_at class place =
    option_and_then (λ row. option_and_then (λ method. native_in method.kind) (slice_get row.methods place)) (slice_get core_classes class)

abbrev pub native_of : Linked → ℕ → Option Native
native_of program method = option_and_then (λ linked. native_at linked.class linked.place) (slice_get program.methods method)

-- each form is said in a file of its own
abbrev by_form : Call → Native → List Value → NativeForm → Option Performed
by_form call native arguments Text = text_native call native arguments
by_form call native arguments OwnFields = own_native call native arguments
by_form call native arguments Table = box_native call native arguments
by_form call native arguments Array = array_native call native arguments
by_form call native arguments Outside = outside_native call native arguments
by_form call natives.EnumValueOf arguments Answer = finds_constant call arguments
by_form call native arguments Answer = answer_native call native arguments

abbrev pub performed : Machine → State → Native → List Value → Option Performed
performed machine state native arguments = by_form (record { machine = machine; state = state }) native arguments (form_of native)
