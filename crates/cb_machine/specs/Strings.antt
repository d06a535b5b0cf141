-- Strings, those of them that are constants, and class objects (JVMS §5.1, §6.5 ldc; JLS §3.10.5).
use Rattle.std.specs.Prelude.{ℕ, pos, List, [], ◌∷◌, map, slice_get, zero, suc}
use Rattle.cb_link.specs.Numbers.{or_none}
use Rattle.cb_plain.specs.declared.table.Table.TheVariants as tables
use Rattle.cb_plain.specs.State.{Content, Number, Reference}
use Rattle.cb_plain.specs.Updates.{with_entry}
use Rattle.cb_machine.specs.Machine.{Machine, kind_of_site, listed}
use Rattle.cb_machine.specs.Plans.{Plan, with_left, with_one}
use Rattle.cb_machine.specs.Sites.{class_objects, constant_characters, constant_strings}

-- a plan, and the serial of an object that it has placed or that was there
pub record Placed : Type 0 where
  pub serial : ℕ
  pub plan : Plan

-- units as the contents of an array of chars
abbrev pub unit_contents : List ℕ → List Content
unit_contents units = map (λ unit. Number (pos unit)) units

-- a string with its characters, which are placed first, at these sites
abbrev pub with_string : Machine → ℕ → ℕ → List ℕ → Plan → Placed
with_string machine site characters units plan =
    let first = with_one plan characters (kind_of_site machine.program characters) (unit_contents units) in
    record { serial = first.next; plan = with_one first site (kind_of_site machine.program site) (Reference plan.next ∷ []) }

-- one object of its own for each text of the program
abbrev entered_constant : ℕ → Placed → Placed
entered_constant text placed =
    record { serial = placed.serial; plan = with_left placed.plan (with_entry placed.plan.left tables.Constants text placed.serial) }

abbrev constant_or_new : Machine → ℕ → Plan → ℕ → Placed
constant_or_new machine text plan zero =
    entered_constant text (with_string machine constant_strings constant_characters (or_none (slice_get machine.program.constants text)) plan)
constant_or_new machine text plan (suc place) = record { serial = suc place; plan = plan }

abbrev pub constant_string : Machine → ℕ → Plan → Placed
constant_string machine text plan = constant_or_new machine text plan (listed plan.left.roots.tables.constants text)

-- and one for the class of each kind, which holds the kind's number
abbrev entered_class : ℕ → Placed → Placed
entered_class kind placed =
    record { serial = placed.serial; plan = with_left placed.plan (with_entry placed.plan.left tables.ClassObjects kind placed.serial) }

abbrev class_or_new : Machine → ℕ → Plan → ℕ → Placed
class_or_new machine kind plan zero =
    entered_class kind (record { serial = plan.next; plan = with_one plan class_objects (kind_of_site machine.program class_objects) (Number (pos kind) ∷ []) })
class_or_new machine kind plan (suc place) = record { serial = suc place; plan = plan }

abbrev pub class_object : Machine → ℕ → Plan → Placed
class_object machine kind plan = class_or_new machine kind plan (listed plan.left.roots.tables.classes kind)
