-- Natives that print, read, or end the run: a typed state advances where one is called.
use Rattle.std.proofs.Common.{◌≡◌, ◌∙◌, ap, arith, refl, sym, ℕ, ℤ, pos, negsuc, zero, suc, ◌+◌, ◌<◌, ◌≤◌, ◌^◌, FitsSigned, Bool, true, false, List, [], ◌∷◌, ◌++◌, codes, drop, take, map, length, nat_le, if◌then◌else◌, Option, Some, None}
use Rattle.std.specs.List.{AllByRecursion}
use Rattle.std.specs.Int.{w8, w32, int_wrap}
use Rattle.std.specs.Prelude.{min}
use Rattle.std.proofs.lemmas.Bool.{leb-true}
use Rattle.std.proofs.lemmas.Int.{SFits-int_wrap, int_wrap_fits}
use Rattle.std.proofs.lemmas.List.{length-map, length-take}
use Rattle.std.proofs.lemmas.Option.{none-some}
use Rattle.cb_arith.proofs.Laws.{narrow_fits}
use Rattle.cb_arith.specs.Narrowing.{narrow}
use Rattle.cb_arith.specs.declared.narrower.Narrow.TheVariants as narrower
use Rattle.cb_io.specs.Utf8.{utf8}
use Rattle.cb_kinds.specs.declared.basic.Basic.{Basic}
use Rattle.cb_kinds.specs.declared.basic.Basic.TheVariants as basics
use Rattle.cb_library.specs.NativeForms.{form_of}
use Rattle.cb_library.specs.declared.native.Native.{Native}
use Rattle.cb_library.specs.declared.native.Native.TheVariants as natives
use Rattle.cb_library.specs.declared.native.NativeForm.TheVariants as forms
use Rattle.cb_machine.specs.Arrays.{element_of}
use Rattle.cb_machine.specs.Copying.{overwritten}
use Rattle.cb_machine.specs.Machine.{Machine}
use Rattle.cb_machine.specs.Natives.{performed}
use Rattle.cb_machine.specs.Performing.{Performed, Gives, gives, on_object, on_text, stops}
use Rattle.cb_machine.specs.Plans.{leaving}
use Rattle.cb_machine.specs.Sites.{index_out_of_bounds}
use Rattle.cb_machine.specs.Texts.{digits, truth, unit_of}
use Rattle.cb_plain.specs.State.{Content, Frame, MethodFrame, Number, Object, OfMethod, State}
use Rattle.cb_plain.specs.Updates.{object_at, with_contents_at, with_input, with_printed}
use Rattle.cb_plain.specs.declared.value.Value.{Value}
use Rattle.cb_plain.specs.declared.value.Value.TheVariants as values
use Rattle.cb_verify.specs.Typed.{IsTyped}
use Rattle.cb_verify.specs.Within.{kind_of_string}
use Rattle.cb_safety.specs.Advancing.{Advances, HoldsOn, IsSpelled}
use Rattle.cb_safety.specs.Heap.{IsObject}
use Rattle.cb_safety.specs.Held.{HasContent}
use Rattle.cb_safety.specs.Kinds.{Refers}
use Rattle.cb_safety.specs.Naming.{HasElements}
use Rattle.cb_safety.specs.Natives.{CallsNative}
use Rattle.cb_safety.specs.Performing.{HasNatives}
use Rattle.cb_safety.specs.Signatures.{bytes, gives_of, takes_of}
use Rattle.cb_safety.specs.States.{IsInput, IsTypedState}
use Rattle.cb_safety.proofs.Elements.{length_fits}
use Rattle.cb_safety.proofs.Rewritten.{all_left, array_rewritten}
use Rattle.cb_safety.proofs.Natively.{array_elements, gives_changed, gives_number, gives_outside, gives_typed, int_answer, kinds, object_typed, stops_null, stops_typed, text_typed}
use Rattle.cb_safety.proofs.Performed.{AreGiven, IsPerformed, given_advances}
use Rattle.cb_safety.proofs.Returning.{no_answer}

module _ (machine : Machine) (state : State) (has : HasNatives machine.program) (typed : IsTypedState machine.program state) (runs : state.roots.pending ≡ 0) where
  abbrev Is : Option Basic → Option Performed → Type 0
  Is result found = IsPerformed machine.program (kinds machine state has typed runs) result found

  abbrev prints : List ℕ → Option Performed
  prints units = Some (Gives (leaving (with_printed state (state.printed ++ utf8 units))) [])

  printed : (units : List ℕ) → Is None (prints units)
  printed units =
      gives_outside machine state has typed runs None state.input (state.printed ++ utf8 units) state.exit [] typed.input (no_answer machine.program (kinds machine state has typed runs ++ []))

  abbrev with_string : (List ℕ → Option Performed) → ℕ → Option Performed
  with_string print zero = print (codes "null")
  with_string print (suc place) = on_text (record { machine = machine; state = state }) (suc place) print

  text_printed : (print : List ℕ → Option Performed) → ((units : List ℕ) → Is None (print units)) → (serial : ℕ) → Refers machine.program (kinds machine state has typed runs) kind_of_string serial
      → Is None (with_string print serial)
  text_printed print each zero refers = each (codes "null")
  text_printed print each (suc place) refers = text_typed machine state has typed runs None (suc place) print refers (λ units text. each units)

  abbrev reads : List ℕ → Option Performed
  reads [] = gives (record { machine = machine; state = state }) (values.Int (negsuc 0) ∷ [])
  reads (byte ∷ rest) = Some (Gives (leaving (with_input state rest)) (values.Int (pos byte) ∷ []))

  byte_fits : (byte : ℕ) → byte < 2 ^ 8 → FitsSigned w32 (pos byte)
  byte_fits byte low = record { sfits = omega (arith, low) }

  none_fits : FitsSigned w32 (negsuc 0)
  none_fits = record { sfits = omega arith }

  byte_read : (bytes : List ℕ) → IsInput bytes → Is (Some basics.Int) (reads bytes)
  byte_read [] all = gives_number machine state has typed runs basics.Int (negsuc 0) refl none_fits
  byte_read (byte ∷ rest) all =
      gives_outside machine state has typed runs (Some basics.Int) rest state.printed state.exit (values.Int (pos byte) ∷ []) all.1
      (int_answer machine.program (kinds machine state has typed runs ++ []) basics.Int (pos byte) refl (byte_fits byte all.0))

  -- bytes into a range of an array
  abbrev stored_byte : ℕ → Content
  stored_byte byte = Number (narrow narrower.Byte (pos byte))

  abbrev some_read : ℕ → Object → ℕ → List ℕ → Option Performed
  some_read serial array from [] = gives (record { machine = machine; state = state }) (values.Int (negsuc 0) ∷ [])
  some_read serial array from (byte ∷ bytes) =
      Some (Gives (leaving (with_contents_at (with_input state (drop (length (byte ∷ bytes)) state.input)) serial (overwritten array.contents from (map stored_byte (byte ∷ bytes)))))
      (values.Int (pos (length (byte ∷ bytes))) ∷ []))

  abbrev so_many : ℕ → Object → ℕ → ℕ → Option Performed
  so_many serial array from zero = gives (record { machine = machine; state = state }) (values.Int (pos 0) ∷ [])
  so_many serial array from (suc count) = some_read serial array from (take (suc count) state.input)

  abbrev range_reads : ℕ → ℤ → ℤ → Object → Option Performed
  range_reads serial (pos from) (pos count) array =
      if nat_le (from + count) (length array.contents) then so_many serial array from count else stops (record { machine = machine; state = state }) index_out_of_bounds
  range_reads serial from count array = stops (record { machine = machine; state = state }) index_out_of_bounds

  byte_has : (byte : ℕ) → HasContent machine.program (kinds machine state has typed runs) basics.Byte (stored_byte byte)
  byte_has byte = HasContent.AnInt basics.Byte (narrow narrower.Byte (pos byte)) refl (narrow_fits narrower.Byte (pos byte)) (int_wrap_fits w8 (int_wrap w8 (pos byte)) (SFits-int_wrap w8 (pos byte)))

  bytes_have : (bytes : List ℕ) → AllByRecursion (HasContent machine.program (kinds machine state has typed runs) basics.Byte) (map stored_byte bytes)
  bytes_have [] = tt
  bytes_have (byte ∷ bytes) = (byte_has byte, bytes_have bytes)

  some_typed : (place : ℕ) (array : Object) (from count : ℕ) (bytes : List ℕ) → object_at state (suc place) ≡ Some array → IsObject machine.program (kinds machine state has typed runs) array
      → HasElements machine.program array.kind basics.Byte → element_of machine.program array.kind ≡ Some basics.Byte → length bytes ≤ count → from + count ≤ length array.contents → Is (Some basics.Int) (some_read (suc place) array from bytes)
  some_typed place array from count [] there is has_elements element few low = gives_number machine state has typed runs basics.Int (negsuc 0) refl none_fits
  some_typed place array from count (byte ∷ bytes) there is has_elements element few low =
      let most = is.few basics.Byte element in
      let size : length (map stored_byte (byte ∷ bytes)) ≡ length (byte ∷ bytes) = length-map (byte ∷ bytes) stored_byte in
      gives_changed machine state has typed runs (Some basics.Int) (drop (length (byte ∷ bytes)) state.input) state.printed state.exit place array
      (overwritten array.contents from (map stored_byte (byte ∷ bytes))) (values.Int (pos (length (byte ∷ bytes))) ∷ [])
      (all_left (λ byte. byte < 2 ^ 8) (length (byte ∷ bytes)) state.input typed.input) there
      (array_rewritten machine.program (kinds machine state has typed runs) array basics.Byte from (map stored_byte (byte ∷ bytes)) element (λ class classed. none-some class (sym has_elements.no_class ∙ classed)) is (bytes_have (byte ∷ bytes)) (omega (arith, size, few, low)))
      (int_answer machine.program (kinds machine state has typed runs ++ []) basics.Int (pos (length (byte ∷ bytes))) refl (length_fits (length (byte ∷ bytes)) (omega (arith, few, low, most))))

  so_many_typed : (place : ℕ) (array : Object) (from count : ℕ) → object_at state (suc place) ≡ Some array → IsObject machine.program (kinds machine state has typed runs) array
      → HasElements machine.program array.kind basics.Byte → element_of machine.program array.kind ≡ Some basics.Byte → from + count ≤ length array.contents → Is (Some basics.Int) (so_many (suc place) array from count)
  so_many_typed place array from zero there is has_elements element low = gives_number machine state has typed runs basics.Int (pos 0) refl (length_fits 0 (omega arith))
  so_many_typed place array from (suc count) there is has_elements element low =
      let size : length (take (suc count) state.input) ≡ min (suc count) (length state.input) = length-take (suc count) state.input in
      some_typed place array from (suc count) (take (suc count) state.input) there is has_elements element (omega (arith, size)) low

  out_of_bounds : Is (Some basics.Int) (stops (record { machine = machine; state = state }) index_out_of_bounds)
  out_of_bounds = stops_typed machine state has typed runs (Some basics.Int) index_out_of_bounds (9, omega arith, refl)

  range_typed : (place : ℕ) (array : Object) (from count : ℤ) → object_at state (suc place) ≡ Some array → IsObject machine.program (kinds machine state has typed runs) array
      → HasElements machine.program array.kind basics.Byte → element_of machine.program array.kind ≡ Some basics.Byte → Is (Some basics.Int) (range_reads (suc place) from count array)
  range_typed place array (pos from) (pos count) there is has_elements element = by (nat_le (from + count) (length array.contents)) refl
    where
      by : (test : Bool) → nat_le (from + count) (length array.contents) ≡ test
          → Is (Some basics.Int) (if test then so_many (suc place) array from count else stops (record { machine = machine; state = state }) index_out_of_bounds)
      by true fits = so_many_typed place array from count there is has_elements element (leb-true (from + count) (length array.contents) fits)
      by false fits = out_of_bounds
  range_typed place array (pos from) (negsuc count) there is has_elements element = out_of_bounds
  range_typed place array (negsuc from) count there is has_elements element = out_of_bounds

  range_read : (serial : ℕ) (from count : ℤ) → Refers machine.program (kinds machine state has typed runs) (bytes machine.program) serial
      → Is (Some basics.Int) (on_object (record { machine = machine; state = state }) serial (range_reads serial from count))
  range_read zero from count refers = stops_null machine state has typed runs (Some basics.Int)
  range_read (suc place) from count refers =
      object_typed machine state has typed runs (Some basics.Int) (bytes machine.program) (suc place) (range_reads (suc place) from count) refers
      (λ at array same there is goes. range_typed place array from count (ap (object_at state) same ∙ there) is (has.core.elements array.kind (bytes machine.program) basics.Byte goes has.core.byte_elements)
      (array_elements machine state has typed runs (bytes machine.program) basics.Byte array refl has.core.byte_elements goes))

  outside_performed : (native : Native) (held : List Value) → AreGiven machine.program (kinds machine state has typed runs) (takes_of machine.program native) held
      → form_of native ≡ forms.Outside → Is (gives_of machine.program native) (performed machine state native held)
  outside_performed natives.PrintBoolean held (AreGiven.AnObject kind serial others more refers (AreGiven.AnInt number last none fits AreGiven.Nothing)) form = printed (truth number)
  outside_performed natives.PrintChar held (AreGiven.AnObject kind serial others more refers (AreGiven.AnInt number last none fits AreGiven.Nothing)) form = printed (unit_of number ∷ [])
  outside_performed natives.PrintInt held (AreGiven.AnObject kind serial others more refers (AreGiven.AnInt number last none fits AreGiven.Nothing)) form = printed (digits number)
  outside_performed natives.PrintLong held (AreGiven.AnObject kind serial others more refers (AreGiven.ALong number last none fits AreGiven.Nothing)) form = printed (digits number)
  outside_performed natives.PrintString held (AreGiven.AnObject kind serial others more refers (AreGiven.AnObject of string last none given AreGiven.Nothing)) form =
      text_printed prints printed string given
  outside_performed natives.PrintlnBoolean held (AreGiven.AnObject kind serial others more refers (AreGiven.AnInt number last none fits AreGiven.Nothing)) form = printed (truth number ++ codes "\n")
  outside_performed natives.PrintlnChar held (AreGiven.AnObject kind serial others more refers (AreGiven.AnInt number last none fits AreGiven.Nothing)) form = printed ((unit_of number ∷ []) ++ codes "\n")
  outside_performed natives.PrintlnInt held (AreGiven.AnObject kind serial others more refers (AreGiven.AnInt number last none fits AreGiven.Nothing)) form = printed (digits number ++ codes "\n")
  outside_performed natives.PrintlnLong held (AreGiven.AnObject kind serial others more refers (AreGiven.ALong number last none fits AreGiven.Nothing)) form = printed (digits number ++ codes "\n")
  outside_performed natives.PrintlnString held (AreGiven.AnObject kind serial others more refers (AreGiven.AnObject of string last none given AreGiven.Nothing)) form =
      text_printed (λ units. prints (units ++ codes "\n")) (λ units. printed (units ++ codes "\n")) string given
  outside_performed natives.Println held (AreGiven.AnObject kind serial others more refers AreGiven.Nothing) form = printed ([] ++ codes "\n")
  outside_performed natives.ReadByte held (AreGiven.AnObject kind serial others more refers AreGiven.Nothing) form = byte_read state.input typed.input
  outside_performed natives.ReadRange held (AreGiven.AnObject kind serial others more refers (AreGiven.AnObject of array two three given (AreGiven.AnInt from four five low (AreGiven.AnInt count last none fits AreGiven.Nothing)))) form =
      range_read array from count given
  outside_performed natives.SystemExit held (AreGiven.AnInt number last none fits AreGiven.Nothing) form =
      gives_outside machine state has typed runs None state.input state.printed (Some number) [] typed.input (no_answer machine.program (kinds machine state has typed runs ++ []))
  outside_performed natives.SystemGc held AreGiven.Nothing form = gives_typed machine state has typed runs None [] (no_answer machine.program (kinds machine state has typed runs ++ []))
  outside_performed other held given form = absurd (cc form)

pub outside_advances : (machine : Machine) (state : State) (frame : MethodFrame) (below : List Frame) → HasNatives machine.program → IsTyped machine.program → IsSpelled machine.program
    → HoldsOn machine.program → IsTypedState machine.program state → state.roots.pending ≡ 0 → state.roots.frames ≡ OfMethod frame ∷ below
    → (calls : CallsNative machine state frame below) → form_of calls.native ≡ forms.Outside → Advances machine state
outside_advances machine state frame below has fits spelled holds typed runs frames calls form =
    given_advances machine state frame below has fits spelled holds typed runs frames calls
    (λ given. outside_performed machine state has typed runs calls.native calls.arguments given form)
