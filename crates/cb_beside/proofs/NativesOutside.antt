-- Natives that print, read or end the run.
use Rattle.std.proofs.Common.{inr, ◌≡◌, ◌∙◌, ap, refl, subst, sym, ℕ, ℤ, pos, negsuc, ◌+◌, List, [], ◌∷◌, ◌++◌, codes, drop, length, map, take, Bool, true, false, Option, Some, None, zero, suc, nat_le, if◌then◌else◌}
use Rattle.std.specs.Prelude.{option_and_then, option_map}
use Rattle.std.proofs.Math.Seq.{drop-append_seam}
use Rattle.cb_io.specs.Utf8.{utf8}
use Rattle.cb_library.specs.declared.native.Native.{Native}
use Rattle.cb_library.specs.declared.native.Native.TheVariants as natives
use Rattle.cb_machine.specs.Copying.{overwritten}
use Rattle.cb_machine.specs.Outside.{outside_native, stored_byte}
use Rattle.cb_machine.specs.Performing.{Call, Performed, Gives, gives_int, on_text, stops, text_of}
use Rattle.cb_machine.specs.Plans.{leaving}
use Rattle.cb_machine.specs.Sites.{index_out_of_bounds, null_pointer}
use Rattle.cb_plain.specs.declared.value.Value.{Value}
use Rattle.cb_plain.specs.declared.value.Value.TheVariants as values
use Rattle.cb_plain.specs.State.{Object}
use Rattle.cb_plain.specs.Updates.{object_at, with_contents_at, with_input, with_printed}
use Rattle.cb_beside.specs.Asking.{is_reader}
use Rattle.cb_beside.specs.Beside.{beside, performed_beside}
use Rattle.cb_beside.proofs.Goes.{Asks, GivesBare, GivesOne, Goes, and_goes, either_goes, plain}

-- what is printed, and what is read
abbrev prints : Call → List ℕ → Option Performed
prints call units = Some (Gives (leaving (with_printed call.state (call.state.printed ++ utf8 units))) [])

abbrev reads : Call → List ℕ → Option Performed
reads call [] = gives_int call (negsuc 0)
reads call (byte ∷ input) = Some (Gives (leaving (with_input call.state input)) (values.Int (pos byte) ∷ []))

abbrev some_into : Call → ℕ → Object → ℕ → List ℕ → Option Performed
some_into call serial array from [] = gives_int call (negsuc 0)
some_into call serial array from (byte ∷ bytes) =
    Some (Gives (leaving (with_contents_at (with_input call.state (drop (length (byte ∷ bytes)) call.state.input)) serial (overwritten array.contents from (map stored_byte (byte ∷ bytes)))))
    (values.Int (pos (length (byte ∷ bytes))) ∷ []))

abbrev so_many_into : Call → ℕ → Object → ℕ → ℕ → Option Performed
so_many_into call serial array from zero = gives_int call (pos 0)
so_many_into call serial array from (suc count) = some_into call serial array from (take (suc count) call.state.input)

abbrev reads_range : Call → ℕ → ℤ → ℤ → Object → Option Performed
reads_range call serial (pos from) (pos count) array =
    if nat_le (from + count) (length array.contents) then so_many_into call serial array from count else stops call index_out_of_bounds
reads_range call serial from count array = stops call index_out_of_bounds

-- a front of bytes, and what stands behind it; and the same front, whatever stands behind, as far as something does
front_and_rest : (count : ℕ) (bytes : List ℕ) → take count bytes ++ drop (length (take count bytes)) bytes ≡ bytes
front_and_rest zero bytes = refl
front_and_rest (suc count) [] = refl
front_and_rest (suc count) (byte ∷ bytes) = ap (λ (rest : List ℕ). byte ∷ rest) (front_and_rest count bytes)

same_front : (count : ℕ) (bytes other : List ℕ) → (drop (length (take count bytes)) bytes ≡ [] → other ≡ []) → take count (take count bytes ++ other) ≡ take count bytes
same_front zero bytes other only = refl
same_front (suc count) [] other only = ap (take (suc count)) (only refl)
same_front (suc count) (byte ∷ bytes) other only = ap (λ (rest : List ℕ). byte ∷ rest) (same_front count bytes other only)

none_taken : (count : ℕ) → take {A = ℕ} count [] ≡ []
none_taken zero = refl
none_taken (suc count) = refl

-- an answer is given and nothing placed, whatever is read
read_given : (call : Call) (bytes : List ℕ) → GivesBare (reads call bytes)
read_given call [] = refl
read_given call (byte ∷ bytes) = refl

into_given : (call : Call) (serial : ℕ) (array : Object) (from : ℕ) (bytes : List ℕ) → GivesBare (some_into call serial array from bytes)
into_given call serial array from [] = refl
into_given call serial array from (byte ∷ bytes) = refl

abbrev pub call_at : Call → List ℕ → List ℕ → Call
call_at call input printed = record { machine = call.machine; state = beside call.state input printed }

-- a native goes so, by whether it reads
abbrev pub Performs : Bool → Call → (Call → Option Performed) → Type 0
Performs reads call performs = Goes reads performed_beside GivesOne call.state.input (λ input printed. performs (call_at call input printed)) (performs call)

module _ (call : Call) where
  prints_goes : (units : List ℕ) → Performs false call (λ call. prints call units)
  prints_goes units = record { said = utf8 units; same = λ input printed. refl }

  text_goes : (place : ℕ) (change : List ℕ → List ℕ) → Performs false call (λ call. on_text call (suc place) (λ units. prints call (change units)))
  text_goes place change =
      and_goes performed_beside GivesOne call.state.input false
      (λ string input printed. option_and_then (λ units. prints (call_at call input printed) (change units)) (text_of call.state string))
      (λ string. option_and_then (λ units. prints call (change units)) (text_of call.state string))
      (λ string. and_goes performed_beside GivesOne call.state.input false
      (λ units input printed. prints (call_at call input printed) (change units)) (λ units. prints call (change units))
      (λ units. prints_goes (change units)) (text_of call.state string))
      (object_at call.state (suc place))

  idle : (performs : Call → Option Performed)
      → ((input printed : List ℕ) → performs (call_at call input printed) ≡ option_map (performed_beside input printed) (performs call)) → Performs true call performs
  idle performs same = plain performed_beside GivesOne call.state.input true (λ input printed. performs (call_at call input printed)) (performs call) same

  one_read : (bytes : List ℕ) → GivesOne (λ input printed. reads (call_at call input printed) input) (reads call bytes)
  one_read bytes =
      record {
        left = leaving call.state;
        answer = values.Int (pos 0) ∷ [];
        takes = λ printed. refl;
        each = λ input printed. read_given (call_at call input printed) input;
        given = read_given call bytes;
      }

  read_goes : (bytes : List ℕ) → Asks performed_beside GivesOne bytes (λ input printed. reads (call_at call input printed) input) (reads call bytes)
  read_goes [] =
      record {
        read = [];
        rest = [];
        front = refl;
        same = λ other printed only.
            subst (λ (other : List ℕ). reads (call_at call other printed) other ≡ option_map (performed_beside other printed) (gives_int call (negsuc 0))) (sym (only refl)) refl;
        turns = inr (one_read []);
      }
  read_goes (byte ∷ input) =
      record { read = byte ∷ []; rest = input; front = refl; same = λ other printed only. refl; turns = inr (one_read (byte ∷ input)) }

  byte_goes : Performs true call (λ call. reads call call.state.input)
  byte_goes = read_goes call.state.input

  into_same : (serial : ℕ) (array : Object) (from : ℕ) (bytes other printed : List ℕ)
      → some_into (call_at call (bytes ++ other) printed) serial array from bytes
      ≡ option_map (performed_beside other printed) (some_into call serial array from bytes)
  into_same serial array from [] other printed = refl
  into_same serial array from (byte ∷ bytes) other printed =
      ap (λ (left : List ℕ).
      Some (Gives (leaving (with_contents_at (beside call.state left printed) serial (overwritten array.contents from (map stored_byte (byte ∷ bytes)))))
      (values.Int (pos (length (byte ∷ bytes))) ∷ [])))
      (drop-append_seam (byte ∷ bytes) other)

  one_into : (serial : ℕ) (array : Object) (from count : ℕ) (bytes : List ℕ)
      → GivesOne (λ input printed. some_into (call_at call input printed) serial array from (take (suc count) input)) (some_into call serial array from bytes)
  one_into serial array from count bytes =
      record {
        left = leaving (with_contents_at call.state serial (overwritten array.contents from (map stored_byte (0 ∷ []))));
        answer = values.Int (pos 1) ∷ [];
        takes = λ printed. ap (λ (rest : List ℕ). some_into (call_at call (0 ∷ []) printed) serial array from (0 ∷ rest)) (none_taken count);
        each = λ input printed. into_given (call_at call input printed) serial array from (take (suc count) input);
        given = into_given call serial array from bytes;
      }

  so_many_goes : (serial : ℕ) (array : Object) (from count : ℕ) → Performs true call (λ call. so_many_into call serial array from count)
  so_many_goes serial array from zero = idle (λ call. so_many_into call serial array from 0) (λ input printed. refl)
  so_many_goes serial array from (suc count) =
      let bytes : List ℕ = take (suc count) call.state.input in
      record {
        read = bytes;
        rest = drop (length bytes) call.state.input;
        front = sym (front_and_rest (suc count) call.state.input);
        same = λ other printed only.
            ap (some_into (call_at call (bytes ++ other) printed) serial array from) (same_front (suc count) call.state.input other only)
            ∙ into_same serial array from bytes other printed;
        turns = inr (one_into serial array from count bytes);
      }

  range_goes : (serial : ℕ) (from count : ℤ) (array : Object) → Performs true call (λ call. reads_range call serial from count array)
  range_goes serial (pos from) (pos count) array =
      either_goes performed_beside GivesOne call.state.input true (nat_le (from + count) (length array.contents))
      (λ input printed. so_many_into (call_at call input printed) serial array from count) (λ input printed. stops (call_at call input printed) index_out_of_bounds)
      (so_many_into call serial array from count) (stops call index_out_of_bounds)
      (so_many_goes serial array from count) (idle (λ call. stops call index_out_of_bounds) (λ input printed. refl))
  range_goes serial (pos from) (negsuc count) array = idle (λ call. stops call index_out_of_bounds) (λ input printed. refl)
  range_goes serial (negsuc from) count array = idle (λ call. stops call index_out_of_bounds) (λ input printed. refl)

  found_goes : (serial : ℕ) (from count : ℤ) (found : Option Object)
      → Asks performed_beside GivesOne call.state.input (λ input printed. option_and_then (reads_range (call_at call input printed) serial from count) found)
      (option_and_then (reads_range call serial from count) found)
  found_goes serial from count None = idle (λ call. None) (λ input printed. refl)
  found_goes serial from count (Some array) = range_goes serial from count array

  -- each of them
  pub outside_goes : (native : Native) (arguments : List Value) → Performs (is_reader (Some native)) call (λ call. outside_native call native arguments)
  outside_goes natives.PrintBoolean (values.Ref stream ∷ values.Int is ∷ []) = prints_goes _
  outside_goes natives.PrintChar (values.Ref stream ∷ values.Int unit ∷ []) = prints_goes _
  outside_goes natives.PrintInt (values.Ref stream ∷ values.Int number ∷ []) = prints_goes _
  outside_goes natives.PrintLong (values.Ref stream ∷ values.Long number ∷ []) = prints_goes _
  outside_goes natives.PrintString (values.Ref stream ∷ values.Ref zero ∷ []) = prints_goes _
  outside_goes natives.PrintString (values.Ref stream ∷ values.Ref (suc place) ∷ []) = text_goes place (λ units. units)
  outside_goes natives.PrintlnBoolean (values.Ref stream ∷ values.Int is ∷ []) = prints_goes _
  outside_goes natives.PrintlnChar (values.Ref stream ∷ values.Int unit ∷ []) = prints_goes _
  outside_goes natives.PrintlnInt (values.Ref stream ∷ values.Int number ∷ []) = prints_goes _
  outside_goes natives.PrintlnLong (values.Ref stream ∷ values.Long number ∷ []) = prints_goes _
  outside_goes natives.PrintlnString (values.Ref stream ∷ values.Ref zero ∷ []) = prints_goes _
  outside_goes natives.PrintlnString (values.Ref stream ∷ values.Ref (suc place) ∷ []) = text_goes place (λ units. units ++ codes "\n")
  outside_goes natives.Println (values.Ref stream ∷ []) = prints_goes _
  outside_goes natives.ReadByte (values.Ref stream ∷ []) = byte_goes
  outside_goes natives.ReadRange (values.Ref stream ∷ values.Ref zero ∷ values.Int from ∷ values.Int count ∷ []) =
      idle (λ call. stops call null_pointer) (λ input printed. refl)
  outside_goes natives.ReadRange (values.Ref stream ∷ values.Ref (suc place) ∷ values.Int from ∷ values.Int count ∷ []) =
      found_goes (suc place) from count (object_at call.state (suc place))
  outside_goes natives.SystemExit (values.Int status ∷ []) = plain performed_beside GivesOne call.state.input false _ _ (λ input printed. refl)
  outside_goes natives.SystemGc [] = plain performed_beside GivesOne call.state.input false _ _ (λ input printed. refl)
  outside_goes native arguments = plain performed_beside GivesOne call.state.input (is_reader (Some native)) (λ input printed. None) None (λ input printed. refl)
