-- References pass in what natives give that print, read or end the run, and in what finding a constant of an enum gives.
use Rattle.std.proofs.Common.{◌≡◌, refl, ℕ, ℤ, pos, negsuc, ◌+◌, List, [], ◌∷◌, ◌++◌, drop, length, map, take, Option, Some, None, zero, suc, nat_le}
use Rattle.std.specs.Prelude.{option_and_then, option_map, slice_get}
use Rattle.cb_heap.specs.Closed.{reference_in_word}
use Rattle.cb_library.specs.declared.native.Native.{Native}
use Rattle.cb_library.specs.declared.native.Native.TheVariants as natives
use Rattle.cb_link.specs.Calls.{class_of_kind}
use Rattle.cb_machine.specs.Copying.{overwritten}
use Rattle.cb_machine.specs.Enums.{constant_named, finds_constant}
use Rattle.cb_machine.specs.Initialising.{once_ready}
use Rattle.cb_machine.specs.Outside.{outside_native}
use Rattle.cb_machine.specs.Performing.{Performed, Gives, Stops, gives, number_at, stops, value_slot}
use Rattle.cb_machine.specs.Plans.{Plan, leaving}
use Rattle.cb_machine.specs.Sites.{illegal_argument, index_out_of_bounds}
use Rattle.cb_plain.specs.declared.class_state.ClassState.{ClassState}
use Rattle.cb_plain.specs.declared.class_state.ClassState.TheVariants as states
use Rattle.cb_plain.specs.declared.value.Value.{Value}
use Rattle.cb_plain.specs.declared.value.Value.TheVariants as values
use Rattle.cb_plain.specs.Reach.{reference_in}
use Rattle.cb_plain.specs.State.{Object}
use Rattle.cb_plain.specs.Updates.{object_at, with_exit, with_input, with_printed}
use Rattle.cb_act.specs.Within.{IsWithin, Within}
use Rattle.cb_act.proofs.NativesOutside.{finds_in, gives_static, kind_of_number, of_class, once_class, read_state, reads, reads_range, so_many_into, some_into, stored_byte}
use Rattle.cb_act.proofs.NativesWithinBasics.{Given, Passing, WordsPass, branch_passes, call_in, changed_passes, drop_passes, gives_passes, int_passes, on_passes, stops_passes, take_passes, text_passes, then_passes, words_of_object}
use Rattle.cb_act.proofs.NumbersNamed.{has_numbers}
use Rattle.cb_act.proofs.WithinBasics.{along, both, item_passes, left_within}
use Rattle.cb_act.proofs.WithinInit.{ready_within}

module _ (it : Passing) where
  -- nothing but what came in and goes out changes
  outside_passes : (input printed : List ℕ) (exit : Option ℤ) → IsWithin it.ok (record { roots = it.state.roots; objects = it.state.objects; input = input; printed = printed; exit = exit })
  outside_passes input printed exit = record { roots = it.is.roots; objects = it.is.objects; next = it.is.next }

  prints_passes : (printed : List ℕ) → Given it (Some (Gives (leaving (with_printed it.state printed)) []))
  prints_passes printed = (left_within it.ok (with_printed it.state printed) (outside_passes it.state.input printed it.state.exit), refl)

  reads_passes : (input : List ℕ) → Given it (reads (call_in it) input)
  reads_passes [] = int_passes it (negsuc 0)
  reads_passes (byte ∷ input) = (left_within it.ok (with_input it.state input) (outside_passes input it.state.printed it.state.exit), refl)

  bytes_pass : (bytes : List ℕ) → WordsPass it (map stored_byte bytes)
  bytes_pass [] = refl
  bytes_pass (byte ∷ bytes) = bytes_pass bytes

  module _ (serial : ℕ) (array : Object) (there : object_at it.state serial ≡ Some array) where
    into_passes : (from : ℕ) (bytes : List ℕ) → Given it (some_into (call_in it) serial array from bytes)
    into_passes from [] = int_passes it (negsuc 0)
    into_passes from (byte ∷ bytes) =
        let new = map stored_byte (byte ∷ bytes) in
        let input = drop (length (byte ∷ bytes)) it.state.input in
        let words = words_of_object it serial array there in (
          left_within it.ok (read_state it.state serial array from (byte ∷ bytes))
              (changed_passes it (with_input it.state input) (outside_passes input it.state.printed it.state.exit) serial (overwritten array.contents from new)
              (along it.ok reference_in_word (take from array.contents ++ new) (drop (from + length new) array.contents)
              (along it.ok reference_in_word (take from array.contents) new (take_passes it from array.contents words) (bytes_pass (byte ∷ bytes)))
              (drop_passes it (from + length new) array.contents words))),
          refl,
        )

    so_many_passes : (from count : ℕ) → Given it (so_many_into (call_in it) serial array from count)
    so_many_passes from zero = int_passes it (pos 0)
    so_many_passes from (suc count) = into_passes from (take (suc count) it.state.input)

    range_passes : (from count : ℤ) → Given it (reads_range (call_in it) serial from count array)
    range_passes (pos from) (pos count) =
        branch_passes it (nat_le (from + count) (length array.contents)) (so_many_into (call_in it) serial array from count) (stops (call_in it) index_out_of_bounds)
        (so_many_passes from count) (stops_passes it index_out_of_bounds)
    range_passes (pos from) (negsuc count) = stops_passes it index_out_of_bounds
    range_passes (negsuc from) count = stops_passes it index_out_of_bounds

  -- each of them
  pub outside_within : (native : Native) (arguments : List Value) → Given it (outside_native (call_in it) native arguments)
  outside_within natives.PrintBoolean (values.Ref stream ∷ values.Int is ∷ []) = prints_passes _
  outside_within natives.PrintChar (values.Ref stream ∷ values.Int unit ∷ []) = prints_passes _
  outside_within natives.PrintInt (values.Ref stream ∷ values.Int number ∷ []) = prints_passes _
  outside_within natives.PrintLong (values.Ref stream ∷ values.Long number ∷ []) = prints_passes _
  outside_within natives.PrintString (values.Ref stream ∷ values.Ref zero ∷ []) = prints_passes _
  outside_within natives.PrintString (values.Ref stream ∷ values.Ref (suc place) ∷ []) = text_passes it (suc place) _ (λ units. prints_passes _)
  outside_within natives.PrintlnBoolean (values.Ref stream ∷ values.Int is ∷ []) = prints_passes _
  outside_within natives.PrintlnChar (values.Ref stream ∷ values.Int unit ∷ []) = prints_passes _
  outside_within natives.PrintlnInt (values.Ref stream ∷ values.Int number ∷ []) = prints_passes _
  outside_within natives.PrintlnLong (values.Ref stream ∷ values.Long number ∷ []) = prints_passes _
  outside_within natives.PrintlnString (values.Ref stream ∷ values.Ref zero ∷ []) = prints_passes _
  outside_within natives.PrintlnString (values.Ref stream ∷ values.Ref (suc place) ∷ []) = text_passes it (suc place) _ (λ units. prints_passes _)
  outside_within natives.Println (values.Ref stream ∷ []) = prints_passes _
  outside_within natives.ReadByte (values.Ref stream ∷ []) = reads_passes it.state.input
  outside_within natives.ReadRange (values.Ref stream ∷ values.Ref array ∷ values.Int from ∷ values.Int count ∷ []) =
      on_passes it array (reads_range (call_in it) array from count) (λ own there. range_passes array own there from count)
  outside_within natives.SystemExit (values.Int status ∷ []) =
      (left_within it.ok (with_exit it.state status) (outside_passes it.state.input it.state.printed (Some status)), refl)
  outside_within natives.SystemGc [] = gives_passes it [] refl
  outside_within native arguments = tt

  -- the constant of an enum
  static_passes : (slot : Option ℕ) → Given it (gives_static (call_in it) slot)
  static_passes None = stops_passes it illegal_argument
  static_passes (Some slot) =
      then_passes it (λ value. gives (call_in it) (value ∷ [])) (slice_get it.state.roots.statics slot)
      (λ value is. gives_passes it (value ∷ []) (both it.ok (reference_in value) [] (item_passes it.ok reference_in it.state.roots.statics slot value is it.is.roots.statics) refl))

  stopped_passes : (found : Option Plan) → Within it.ok found → Given it (option_map Stops found)
  stopped_passes None is = tt
  stopped_passes (Some plan) is = is

  once_passes : (class : ℕ) (one : Option Performed) → Given it one → (state : ClassState) → Given it (once_class (call_in it) class one state)
  once_passes class one is states.Busy = is
  once_passes class one is states.Done = is
  once_passes class one is state =
      stopped_passes (once_ready it.machine it.state class None) (ready_within it.ok it.machine (has_numbers it.ok it.machine.program) it.state class None it.is tt)

  of_class_passes : (name : ℕ) (class : Option ℕ) → Given it (of_class (call_in it) name class)
  of_class_passes name None = text_passes it name (λ units. stops (call_in it) illegal_argument) (λ units. stops_passes it illegal_argument)
  of_class_passes name (Some class) =
      then_passes it (once_class (call_in it) class (finds_in (call_in it) name class)) (slice_get it.state.roots.classes class)
      (λ state is. once_passes class (finds_in (call_in it) name class)
      (text_passes it name _ (λ units. static_passes (constant_named it.machine.program class units))) state)

  pub constant_within : (arguments : List Value) → Given it (finds_constant (call_in it) arguments)
  constant_within (values.Ref class ∷ values.Ref name ∷ []) =
      on_passes it class _
      (λ own there. of_class_passes name (option_and_then (class_of_kind it.machine.program) (option_and_then kind_of_number (number_at own value_slot))))
  constant_within arguments = tt
