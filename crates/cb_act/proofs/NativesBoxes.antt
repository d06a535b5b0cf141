-- Natives that give an object from a table, of a state with changed objects.
use Rattle.std.proofs.Common.{◌≡◌, ◌∙◌, ap, refl, ℕ, ℤ, pos, negsuc, ◌+ℤ◌, List, [], ◌∷◌, Some, zero, suc, if◌then◌else◌, nat_lt}
use Rattle.cb_arith.specs.Bits.{low_bits}
use Rattle.cb_library.specs.declared.native.Native.{Native}
use Rattle.cb_library.specs.declared.native.Native.TheVariants as natives
use Rattle.cb_machine.specs.Boxes.{box_native, offset}
use Rattle.cb_machine.specs.Machine.{Machine, kind_of_site, listed}
use Rattle.cb_machine.specs.Performing.{Call, Performed, Gives, gives_placed}
use Rattle.cb_machine.specs.Plans.{Plan, leaving, with_left, with_one}
use Rattle.cb_machine.specs.Sites as sites
use Rattle.cb_machine.specs.Strings.{class_object}
use Rattle.cb_machine.specs.Texts.{unit_of}
use Rattle.cb_plain.specs.declared.table.Table.{Table}
use Rattle.cb_plain.specs.declared.table.Table.TheVariants as tables
use Rattle.cb_plain.specs.declared.value.Value.{Value}
use Rattle.cb_plain.specs.declared.value.Value.TheVariants as values
use Rattle.cb_plain.specs.Roots.{table_in}
use Rattle.cb_plain.specs.State.{Number, small_chars, small_numbers}
use Rattle.cb_plain.specs.Updates.{with_entry}
use Rattle.cb_act.specs.Changing.{changed_performed, changed_state}
use Rattle.cb_act.proofs.KeptGoing.{class_kept}
use Rattle.cb_act.proofs.NativesBasics.{Changed, Held, Same, changed_call, either_same, first, left_same, object_same, own_call}

-- a new box, and one that is kept at a place of a table
abbrev pub boxed : Machine → ℕ → ℤ → Plan → Plan
boxed machine site number plan = with_one plan site (kind_of_site machine.program site) (Number number ∷ [])

abbrev pub new_box : Call → ℕ → ℤ → Performed
new_box call site number = Gives (boxed call.machine site number (leaving call.state)) (values.Ref (leaving call.state).next ∷ [])

abbrev pub kept_box : Call → ℕ → ℤ → Table → ℕ → ℕ → Performed
kept_box call site number table place zero =
    Gives (with_left (boxed call.machine site number (leaving call.state)) (with_entry call.state table place (leaving call.state).next))
    (values.Ref (leaving call.state).next ∷ [])
kept_box call site number table place (suc other) = Gives (leaving call.state) (values.Ref (suc other) ∷ [])

abbrev pub box_at : Call → ℕ → ℤ → Table → ℕ → ℤ → Performed
box_at call site number table count (pos place) =
    if nat_lt place count then kept_box call site number table place (listed (table_in call.state.roots.tables table) place) else new_box call site number
box_at call site number table count other = new_box call site number

module _ (it : Changed) where
  class_same : (kind : ℕ) → Same it (gives_placed (class_object it.machine kind (leaving (changed_state it.change it.state))))
      (gives_placed (class_object it.machine kind (leaving it.state)))
  class_same kind =
      ap (λ (plan : Plan). gives_placed (class_object it.machine kind plan)) (left_same it)
      ∙ ap gives_placed (class_kept it.change it.machine kind (leaving it.state))

  new_same : (site : ℕ) (number : ℤ) → new_box (changed_call it) site number ≡ changed_performed it.change (new_box (own_call it) site number)
  new_same site number = ap (λ (plan : Plan). Gives (boxed it.machine site number plan) (values.Ref plan.next ∷ [])) (left_same it)

  kept_same : (site : ℕ) (number : ℤ) (table : Table) (place serial : ℕ)
      → kept_box (changed_call it) site number table place serial ≡ changed_performed it.change (kept_box (own_call it) site number table place serial)
  kept_same site number table place zero =
      ap (λ (plan : Plan). Gives (with_left (boxed it.machine site number plan) (with_entry (changed_state it.change it.state) table place plan.next)) (values.Ref plan.next ∷ []))
      (left_same it)
  kept_same site number table place (suc other) = ap (λ (plan : Plan). Gives plan (values.Ref (suc other) ∷ [])) (left_same it)

  at_same : (site : ℕ) (number : ℤ) (table : Table) (count : ℕ) (place : ℤ)
      → box_at (changed_call it) site number table count place ≡ changed_performed it.change (box_at (own_call it) site number table count place)
  at_same site number table count (pos place) =
      either_same (changed_performed it.change) (nat_lt place count)
      (kept_box (changed_call it) site number table place (listed (table_in it.state.roots.tables table) place))
      (kept_box (own_call it) site number table place (listed (table_in it.state.roots.tables table) place))
      (new_box (changed_call it) site number) (new_box (own_call it) site number)
      (kept_same site number table place (listed (table_in it.state.roots.tables table) place)) (new_same site number)
  at_same site number table count (negsuc place) = new_same site number

  -- each of them
  pub box_same : (native : Native) (arguments : List Value) → Held it arguments
      → Same it (box_native (changed_call it) native arguments) (box_native (own_call it) native arguments)
  box_same natives.ObjectGetClass (values.Ref object ∷ []) held =
      object_same it object (first it object [] held) _ _ (λ own there. class_same own.kind)
  box_same natives.IntegerValueOf (values.Int number ∷ []) held =
      ap Some (at_same sites.integers number tables.Integers small_numbers (number +ℤ offset))
  box_same natives.LongValueOf (values.Long number ∷ []) held =
      ap Some (at_same sites.longs number tables.Longs small_numbers (number +ℤ offset))
  box_same natives.CharacterValueOf (values.Int unit ∷ []) held =
      ap Some (at_same sites.characters (pos (unit_of unit)) tables.Characters small_chars (pos (unit_of unit)))
  box_same natives.BooleanValueOf (values.Int is ∷ []) held =
      ap Some (at_same sites.booleans (pos (low_bits 1 is)) tables.Booleans 2 (pos (low_bits 1 is)))
  box_same native arguments held = refl
