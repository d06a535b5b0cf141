-- Natives that give an object from a table, where it has one.
use Rattle.std.proofs.Common.{◌≡◌, ap, refl, ℕ, ℤ, pos, negsuc, ◌+ℤ◌, List, [], ◌∷◌, Some, zero, suc, nat_lt}
use Rattle.cb_arith.specs.Bits.{low_bits}
use Rattle.cb_library.specs.declared.native.Native.{Native}
use Rattle.cb_library.specs.declared.native.Native.TheVariants as natives
use Rattle.cb_machine.specs.Boxes.{box_at, box_native, kept_box, offset}
use Rattle.cb_machine.specs.Machine.{listed}
use Rattle.cb_machine.specs.Performing.{gives_placed}
use Rattle.cb_machine.specs.Plans.{leaving}
use Rattle.cb_machine.specs.Sites as sites
use Rattle.cb_machine.specs.Texts.{unit_of}
use Rattle.cb_plain.specs.Roots.{table_in}
use Rattle.cb_plain.specs.declared.table.Table.{Table}
use Rattle.cb_plain.specs.declared.table.Table.TheVariants as tables
use Rattle.cb_plain.specs.declared.value.Value.{Value}
use Rattle.cb_plain.specs.declared.value.Value.TheVariants as values
use Rattle.cb_plain.specs.State.{small_chars, small_numbers}
use Rattle.cb_beside.specs.Beside.{performed_beside}
use Rattle.cb_beside.proofs.Going.{class_same, either_same}
use Rattle.cb_beside.proofs.NativesBasics.{Alike, Apart, object_same, there}

module _ (it : Apart) where
  kept_same : (site : ℕ) (number : ℤ) (table : Table) (place serial : ℕ)
      → kept_box (there it) site number table place serial ≡ performed_beside it.input it.printed (kept_box it.own site number table place serial)
  kept_same site number table place zero = refl
  kept_same site number table place (suc other) = refl

  at_same : (site : ℕ) (number : ℤ) (table : Table) (count : ℕ) (place : ℤ)
      → box_at (there it) site number table count place ≡ performed_beside it.input it.printed (box_at it.own site number table count place)
  at_same site number table count (pos place) =
      either_same (performed_beside it.input it.printed) (nat_lt place count) _ _ _ _
      (kept_same site number table place (listed (table_in it.own.state.roots.tables table) place)) refl
  at_same site number table count (negsuc place) = refl

  -- each of them
  pub box_same : (native : Native) (arguments : List Value) → Alike it (box_native (there it) native arguments) (box_native it.own native arguments)
  box_same natives.ObjectGetClass (values.Ref object ∷ []) =
      object_same it object _ _ (λ own. ap gives_placed (class_same it.input it.printed it.own.machine own.kind (leaving it.own.state)))
  box_same natives.IntegerValueOf (values.Int number ∷ []) = ap Some (at_same sites.integers number tables.Integers small_numbers (number +ℤ offset))
  box_same natives.LongValueOf (values.Long number ∷ []) = ap Some (at_same sites.longs number tables.Longs small_numbers (number +ℤ offset))
  box_same natives.CharacterValueOf (values.Int unit ∷ []) =
      ap Some (at_same sites.characters (pos (unit_of unit)) tables.Characters small_chars (pos (unit_of unit)))
  box_same natives.BooleanValueOf (values.Int is ∷ []) =
      ap Some (at_same sites.booleans (pos (low_bits 1 is)) tables.Booleans 2 (pos (low_bits 1 is)))
  box_same native arguments = refl
