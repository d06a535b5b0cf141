-- References pass in what natives give that give an object from a table.
use Rattle.std.proofs.Common.{refl, ℕ, ℤ, pos, negsuc, ◌+ℤ◌, Bool, true, false, List, [], ◌∷◌, ◌++◌, Some, zero, suc, if◌then◌else◌, nat_lt}
use Rattle.std.specs.List.{flat_map}
use Rattle.cb_arith.specs.Bits.{low_bits}
use Rattle.cb_library.specs.declared.native.Native.{Native}
use Rattle.cb_library.specs.declared.native.Native.TheVariants as natives
use Rattle.cb_machine.specs.Boxes.{box_native, offset}
use Rattle.cb_machine.specs.Machine.{kind_of_site, listed}
use Rattle.cb_machine.specs.Performing.{gives_placed}
use Rattle.cb_machine.specs.Plans.{leaving}
use Rattle.cb_machine.specs.Sites as sites
use Rattle.cb_machine.specs.Strings.{class_object}
use Rattle.cb_machine.specs.Texts.{unit_of}
use Rattle.cb_plain.specs.declared.table.Table.{Table}
use Rattle.cb_plain.specs.declared.table.Table.TheVariants as tables
use Rattle.cb_plain.specs.declared.value.Value.{Value}
use Rattle.cb_plain.specs.declared.value.Value.TheVariants as values
use Rattle.cb_plain.specs.Reach.{table_references, unless_null}
use Rattle.cb_plain.specs.Roots.{table_in}
use Rattle.cb_plain.specs.State.{Number, Tables, small_chars, small_numbers}
use Rattle.cb_plain.specs.Updates.{with_entry}
use Rattle.cb_act.specs.Within.{IsPlanWithin, Pass}
use Rattle.cb_act.proofs.NativesBoxes.{box_at, boxed, kept_box, new_box}
use Rattle.cb_act.proofs.NativesWithinBasics.{AllPass, Given, Passing, call_in, left_passes, on_passes, one_passes, placed_passes, with_left_passes}
use Rattle.cb_act.proofs.WithinBasics.{along_parts, class_within, entered_passes, listed_passes, one_within, own_next}

-- the entries of each table
all_tables : (ok : ℕ → Bool) (held : Tables) → Pass ok (table_references held)
    → Pass ok (flat_map unless_null held.constants) × Pass ok (flat_map unless_null held.classes) × Pass ok (flat_map unless_null held.integers)
    × Pass ok (flat_map unless_null held.longs) × Pass ok (flat_map unless_null held.characters) × Pass ok (flat_map unless_null held.booleans)
all_tables ok held all =
    let five = along_parts ok unless_null (held.constants ++ held.classes ++ held.integers ++ held.longs ++ held.characters) held.booleans all in
    let four = along_parts ok unless_null (held.constants ++ held.classes ++ held.integers ++ held.longs) held.characters five.0 in
    let three = along_parts ok unless_null (held.constants ++ held.classes ++ held.integers) held.longs four.0 in
    let two = along_parts ok unless_null (held.constants ++ held.classes) held.integers three.0 in
    let one = along_parts ok unless_null held.constants held.classes two.0 in
    (one.0, one.1, two.1, three.1, four.1, five.1)

table_passes : (ok : ℕ → Bool) (held : Tables) → Pass ok (table_references held) → (table : Table) → Pass ok (flat_map unless_null (table_in held table))
table_passes ok held all tables.Constants = (all_tables ok held all).0
table_passes ok held all tables.ClassObjects = (all_tables ok held all).1
table_passes ok held all tables.Integers = (all_tables ok held all).2
table_passes ok held all tables.Longs = (all_tables ok held all).3
table_passes ok held all tables.Characters = (all_tables ok held all).4
table_passes ok held all tables.Booleans = (all_tables ok held all).5

module _ (it : Passing) where
  boxed_passes : (site : ℕ) (number : ℤ) → IsPlanWithin it.ok (boxed it.machine site number (leaving it.state))
  boxed_passes site number = one_within it.ok (leaving it.state) site (kind_of_site it.machine.program site) (Number number ∷ []) (left_passes it) refl

  next_passes : AllPass it (values.Ref (leaving it.state).next ∷ [])
  next_passes = one_passes it (leaving it.state).next (own_next it.ok (leaving it.state) (left_passes it))

  new_passes : (site : ℕ) (number : ℤ) → Given it (Some (new_box (call_in it) site number))
  new_passes site number = (boxed_passes site number, next_passes)

  kept_passes : (site : ℕ) (number : ℤ) (table : Table) (place serial : ℕ) → Pass it.ok (unless_null serial)
      → Given it (Some (kept_box (call_in it) site number table place serial))
  kept_passes site number table place zero pass = (
    with_left_passes it (boxed it.machine site number (leaving it.state)) (with_entry it.state table place (leaving it.state).next) (boxed_passes site number)
        (record {
          roots = entered_passes it.ok it.state.roots table place (leaving it.state).next it.is.roots (own_next it.ok (leaving it.state) (left_passes it));
          objects = it.is.objects;
          next = it.is.next;
        }),
    next_passes,
  )
  kept_passes site number table place (suc other) pass = (left_passes it, one_passes it (suc other) pass)

  at_passes : (site : ℕ) (number : ℤ) (table : Table) (count : ℕ) (place : ℤ) → Given it (Some (box_at (call_in it) site number table count place))
  at_passes site number table count (pos place) = go (nat_lt place count) where
    passes : Pass it.ok (unless_null (listed (table_in it.state.roots.tables table) place))
    passes = listed_passes it.ok (table_in it.state.roots.tables table) place (listed (table_in it.state.roots.tables table) place) (table_passes it.ok it.state.roots.tables it.is.roots.tables table) refl

    go : (is : Bool)
        → Given it (Some (if is then kept_box (call_in it) site number table place (listed (table_in it.state.roots.tables table) place) else new_box (call_in it) site number))
    go true = kept_passes site number table place (listed (table_in it.state.roots.tables table) place) passes
    go false = new_passes site number
  at_passes site number table count (negsuc place) = new_passes site number

  class_passes : (kind : ℕ) → Given it (gives_placed (class_object it.machine kind (leaving it.state)))
  class_passes kind =
      let own = class_within it.ok it.machine kind (leaving it.state) (left_passes it) in
      placed_passes it (class_object it.machine kind (leaving it.state)) own.0 own.1

  -- each of them
  pub box_within : (native : Native) (arguments : List Value) → Given it (box_native (call_in it) native arguments)
  box_within natives.ObjectGetClass (values.Ref object ∷ []) = on_passes it object _ (λ own there. class_passes own.kind)
  box_within natives.IntegerValueOf (values.Int number ∷ []) = at_passes sites.integers number tables.Integers small_numbers (number +ℤ offset)
  box_within natives.LongValueOf (values.Long number ∷ []) = at_passes sites.longs number tables.Longs small_numbers (number +ℤ offset)
  box_within natives.CharacterValueOf (values.Int unit ∷ []) =
      at_passes sites.characters (pos (unit_of unit)) tables.Characters small_chars (pos (unit_of unit))
  box_within natives.BooleanValueOf (values.Int is ∷ []) = at_passes sites.booleans (pos (low_bits 1 is)) tables.Booleans 2 (pos (low_bits 1 is))
  box_within native arguments = tt
