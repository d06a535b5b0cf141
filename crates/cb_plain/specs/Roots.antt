-- Roots with one thing changed.
use Rattle.std.specs.Prelude.{ℕ, List, slice_set}
use Rattle.cb_plain.specs.declared.class_state.ClassState.{ClassState}
use Rattle.cb_plain.specs.declared.table.Table.{Table}
use Rattle.cb_plain.specs.declared.table.Table.TheVariants as tables
use Rattle.cb_plain.specs.declared.value.Value.{Value}
use Rattle.cb_plain.specs.State.{Frame, Roots, Tables}

abbrev pub with_frames : Roots → List Frame → Roots
with_frames roots frames =
    record { frames = frames; pending = roots.pending; statics = roots.statics; classes = roots.classes; tables = roots.tables; argument = roots.argument }

abbrev pub with_pending : Roots → ℕ → Roots
with_pending roots serial =
    record { frames = roots.frames; pending = serial; statics = roots.statics; classes = roots.classes; tables = roots.tables; argument = roots.argument }

abbrev pub with_static : Roots → ℕ → Value → Roots
with_static roots slot value =
    record { frames = roots.frames; pending = roots.pending; statics = slice_set roots.statics slot value; classes = roots.classes; tables = roots.tables; argument = roots.argument }

abbrev pub with_class : Roots → ℕ → ClassState → Roots
with_class roots class now =
    record { frames = roots.frames; pending = roots.pending; statics = roots.statics; classes = slice_set roots.classes class now; tables = roots.tables; argument = roots.argument }

abbrev pub with_argument : Roots → ℕ → Roots
with_argument roots serial =
    record { frames = roots.frames; pending = roots.pending; statics = roots.statics; classes = roots.classes; tables = roots.tables; argument = serial }

-- a table, and the tables with another serial at a place of one
abbrev pub table_in : Tables → Table → List ℕ
table_in held tables.Constants = held.constants
table_in held tables.ClassObjects = held.classes
table_in held tables.Integers = held.integers
table_in held tables.Longs = held.longs
table_in held tables.Characters = held.characters
table_in held tables.Booleans = held.booleans

abbrev with_table : Tables → Table → List ℕ → Tables
with_table held tables.Constants table =
    record { constants = table; classes = held.classes; integers = held.integers; longs = held.longs; characters = held.characters; booleans = held.booleans }
with_table held tables.ClassObjects table =
    record { constants = held.constants; classes = table; integers = held.integers; longs = held.longs; characters = held.characters; booleans = held.booleans }
with_table held tables.Integers table =
    record { constants = held.constants; classes = held.classes; integers = table; longs = held.longs; characters = held.characters; booleans = held.booleans }
with_table held tables.Longs table =
    record { constants = held.constants; classes = held.classes; integers = held.integers; longs = table; characters = held.characters; booleans = held.booleans }
with_table held tables.Characters table =
    record { constants = held.constants; classes = held.classes; integers = held.integers; longs = held.longs; characters = table; booleans = held.booleans }
with_table held tables.Booleans table =
    record { constants = held.constants; classes = held.classes; integers = held.integers; longs = held.longs; characters = held.characters; booleans = table }

abbrev pub with_entry : Roots → Table → ℕ → ℕ → Roots
with_entry roots table place serial =
    record { frames = roots.frames; pending = roots.pending; statics = roots.statics; classes = roots.classes; tables = with_table roots.tables table (slice_set (table_in roots.tables table) place serial); argument = roots.argument }
