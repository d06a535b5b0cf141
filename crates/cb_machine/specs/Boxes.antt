-- Natives that give an object from a table, where it has one: class objects and boxes (Java SE 8 API, java.lang; JLS §5.1.7).
use Rattle.std.specs.Prelude.{ℤ, pos, ◌+ℤ◌, ℕ, List, [], ◌∷◌, Option, Some, None, nat_lt, zero, suc, if◌then◌else◌}
use Rattle.cb_arith.specs.Bits.{low_bits}
use Rattle.cb_library.specs.declared.native.Native.{Native}
use Rattle.cb_library.specs.declared.native.Native.TheVariants as natives
use Rattle.cb_plain.specs.declared.table.Table.{Table}
use Rattle.cb_plain.specs.declared.table.Table.TheVariants as tables
use Rattle.cb_plain.specs.declared.value.Value.{Value}
use Rattle.cb_plain.specs.declared.value.Value.TheVariants.{Int, Long, Ref}
use Rattle.cb_plain.specs.Roots.{table_in}
use Rattle.cb_plain.specs.State.{Number, small_chars, small_numbers}
use Rattle.cb_plain.specs.Updates.{with_entry}
use Rattle.cb_machine.specs.Machine.{kind_of_site, listed}
use Rattle.cb_machine.specs.Performing.{Call, Performed, Gives, on_object, gives_placed}
use Rattle.cb_machine.specs.Plans.{Plan, leaving, with_left, with_one}
use Rattle.cb_machine.specs.Sites as sites
use Rattle.cb_machine.specs.Strings.{class_object}
use Rattle.cb_machine.specs.Texts.{unit_of}

-- how far the least number with a box is below 0
abbrev pub offset : ℤ
offset = pos 128

-- a new box of a number
abbrev pub boxed : Call → ℕ → ℤ → Plan
boxed call site number = with_one (leaving call.state) site (kind_of_site call.machine.program site) (Number number ∷ [])

abbrev pub new_box : Call → ℕ → ℤ → Performed
new_box call site number = Gives (boxed call site number) (Ref (leaving call.state).next ∷ [])

-- or the one that is kept at a place of a table
abbrev pub kept_box : Call → ℕ → ℤ → Table → ℕ → ℕ → Performed
kept_box call site number table place zero =
    let plan = boxed call site number in
    let serial = (leaving call.state).next in
    Gives (with_left plan (with_entry call.state table place serial)) (Ref serial ∷ [])
kept_box call site number table place (suc other) = Gives (leaving call.state) (Ref (suc other) ∷ [])

abbrev pub box_at : Call → ℕ → ℤ → Table → ℕ → ℤ → Performed
box_at call site number table count (pos place) =
    if nat_lt place count then kept_box call site number table place (listed (table_in call.state.roots.tables table) place) else new_box call site number
box_at call site number table count other = new_box call site number

abbrev pub box_native : Call → Native → List Value → Option Performed
box_native call natives.ObjectGetClass (Ref object ∷ []) = on_object call object (λ object. gives_placed (class_object call.machine object.kind (leaving call.state)))
box_native call natives.IntegerValueOf (Int number ∷ []) = Some (box_at call sites.integers number tables.Integers small_numbers (number +ℤ offset))
box_native call natives.LongValueOf (Long number ∷ []) = Some (box_at call sites.longs number tables.Longs small_numbers (number +ℤ offset))
box_native call natives.CharacterValueOf (Int unit ∷ []) = Some (box_at call sites.characters (pos (unit_of unit)) tables.Characters small_chars (pos (unit_of unit)))
box_native call natives.BooleanValueOf (Int is ∷ []) = Some (box_at call sites.booleans (pos (low_bits 1 is)) tables.Booleans 2 (pos (low_bits 1 is)))
box_native call other arguments = None
