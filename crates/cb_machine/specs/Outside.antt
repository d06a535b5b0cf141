-- Natives that print, read, or end the run (Java SE 8 API, java.io.PrintStream, java.io.InputStream and java.lang.System).
use Rattle.std.specs.Prelude.{ℤ, pos, negsuc, ℕ, ◌+◌, List, [], ◌∷◌, ◌++◌, map, take, drop, length, codes, Option, Some, None, zero, suc, nat_le, if◌then◌else◌}
use Rattle.cb_arith.specs.Narrowing.{narrow}
use Rattle.cb_arith.specs.declared.narrower.Narrow.TheVariants as narrower
use Rattle.cb_io.specs.Utf8.{utf8}
use Rattle.cb_library.specs.declared.native.Native.{Native}
use Rattle.cb_library.specs.declared.native.Native.TheVariants as natives
use Rattle.cb_plain.specs.declared.value.Value.{Value}
use Rattle.cb_plain.specs.declared.value.Value.TheVariants.{Int, Long, Ref}
use Rattle.cb_plain.specs.State.{Content, Number, Object}
use Rattle.cb_plain.specs.Updates.{with_contents_at, with_exit, with_input, with_printed}
use Rattle.cb_machine.specs.Copying.{overwritten}
use Rattle.cb_machine.specs.Performing.{Call, Performed, Gives, gives, gives_int, on_object, on_text, stops}
use Rattle.cb_machine.specs.Plans.{leaving}
use Rattle.cb_machine.specs.Sites.{index_out_of_bounds}
use Rattle.cb_machine.specs.Texts.{digits, truth, unit_of}

-- text is printed in UTF-8
abbrev prints : Call → List ℕ → Option Performed
prints call units = Some (Gives (leaving (with_printed call.state (call.state.printed ++ utf8 units))) [])

abbrev prints_line : Call → List ℕ → Option Performed
prints_line call units = prints call (units ++ codes "\n")

abbrev with_string : Call → (List ℕ → Option Performed) → ℕ → Option Performed
with_string call print zero = print (codes "null")
with_string call print (suc place) = on_text call (suc place) print

-- a byte of the input, or -1 at its end
abbrev reads : Call → List ℕ → Option Performed
reads call [] = gives_int call (negsuc 0)
reads call (byte ∷ input) = Some (Gives (leaving (with_input call.state input)) (Int (pos byte) ∷ []))

-- bytes into a range of an array: as many as the range takes or the input has, or -1 where it is at its end and the range takes some
abbrev pub stored_byte : ℕ → Content
stored_byte byte = Number (narrow narrower.Byte (pos byte))

abbrev read_into : Call → ℕ → Object → ℕ → List ℕ → Option Performed
read_into call serial array from bytes =
    Some (Gives (leaving (with_contents_at (with_input call.state (drop (length bytes) call.state.input)) serial (overwritten array.contents from (map stored_byte bytes))))
    (Int (pos (length bytes)) ∷ []))

abbrev some_into : Call → ℕ → Object → ℕ → List ℕ → Option Performed
some_into call serial array from [] = gives_int call (negsuc 0)
some_into call serial array from (byte ∷ bytes) = read_into call serial array from (byte ∷ bytes)

abbrev so_many_into : Call → ℕ → Object → ℕ → ℕ → Option Performed
so_many_into call serial array from zero = gives_int call (pos 0)
so_many_into call serial array from (suc count) = some_into call serial array from (take (suc count) call.state.input)

abbrev reads_range : Call → ℕ → ℤ → ℤ → Object → Option Performed
reads_range call serial (pos from) (pos count) array =
    if nat_le (from + count) (length array.contents) then so_many_into call serial array from count else stops call index_out_of_bounds
reads_range call serial from count array = stops call index_out_of_bounds

abbrev exits : Call → ℤ → Option Performed
exits call status = Some (Gives (leaving (with_exit call.state status)) [])

abbrev pub outside_native : Call → Native → List Value → Option Performed
outside_native call natives.PrintBoolean (Ref stream ∷ Int is ∷ []) = prints call (truth is)
outside_native call natives.PrintChar (Ref stream ∷ Int unit ∷ []) = prints call (unit_of unit ∷ [])
outside_native call natives.PrintInt (Ref stream ∷ Int number ∷ []) = prints call (digits number)
outside_native call natives.PrintLong (Ref stream ∷ Long number ∷ []) = prints call (digits number)
outside_native call natives.PrintString (Ref stream ∷ Ref string ∷ []) = with_string call (prints call) string
outside_native call natives.PrintlnBoolean (Ref stream ∷ Int is ∷ []) = prints_line call (truth is)
outside_native call natives.PrintlnChar (Ref stream ∷ Int unit ∷ []) = prints_line call (unit_of unit ∷ [])
outside_native call natives.PrintlnInt (Ref stream ∷ Int number ∷ []) = prints_line call (digits number)
outside_native call natives.PrintlnLong (Ref stream ∷ Long number ∷ []) = prints_line call (digits number)
outside_native call natives.PrintlnString (Ref stream ∷ Ref string ∷ []) = with_string call (prints_line call) string
outside_native call natives.Println (Ref stream ∷ []) = prints_line call []
outside_native call natives.ReadByte (Ref stream ∷ []) = reads call call.state.input
outside_native call natives.ReadRange (Ref stream ∷ Ref array ∷ Int from ∷ Int count ∷ []) = on_object call array (reads_range call array from count)
outside_native call natives.SystemExit (Int status ∷ []) = exits call status
outside_native call natives.SystemGc [] = gives call []
outside_native call other arguments = None
