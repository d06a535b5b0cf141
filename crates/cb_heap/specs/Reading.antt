-- Roots in which objects are named by their places in a store, read as roots in which they are named by serials. A store tells of each
-- place the number of objects before the one that lies there.
use Rattle.std.specs.Prelude.{ℕ, List, Option, map, zero, suc}
use Rattle.cb_plain.specs.declared.value.Value.{Value}
use Rattle.cb_plain.specs.declared.value.Value.TheVariants as values
use Rattle.cb_plain.specs.State.{Frame, Initialising, Object, OfMethod, Roots, Tables}

-- null is null wherever objects lie
abbrev pub serial_of : (ℕ → ℕ) → ℕ → ℕ
serial_of index zero = zero
serial_of index (suc place) = suc (index (suc place))

abbrev pub read_value : (ℕ → ℕ) → Value → Value
read_value index (values.Ref place) = values.Ref (serial_of index place)
read_value index other = other

abbrev pub read_frame : (ℕ → ℕ) → Frame → Frame
read_frame index (OfMethod frame) =
    OfMethod (record { method = frame.method; pc = frame.pc; slots = frame.slots; locals = map (read_value index) frame.locals; stack = map (read_value index) frame.stack })
read_frame index (Initialising class place) = Initialising class place

abbrev pub read_tables : (ℕ → ℕ) → Tables → Tables
read_tables index tables =
    record { constants = map (serial_of index) tables.constants; classes = map (serial_of index) tables.classes; integers = map (serial_of index) tables.integers; longs = map (serial_of index) tables.longs; characters = map (serial_of index) tables.characters; booleans = map (serial_of index) tables.booleans }

abbrev pub read_roots : (ℕ → ℕ) → Roots → Roots
read_roots index roots =
    record { frames = map (read_frame index) roots.frames; pending = serial_of index roots.pending; statics = map (read_value index) roots.statics; classes = roots.classes; tables = read_tables index roots.tables; argument = serial_of index roots.argument }

-- what roots and a store are seen as
pub record View : Type 0 where
  pub roots : Roots
  pub objects : List (Option Object)

abbrev pub seen : (ℕ → ℕ) → List (Option Object) → Roots → View
seen index objects roots = record { roots = read_roots index roots; objects = objects }
