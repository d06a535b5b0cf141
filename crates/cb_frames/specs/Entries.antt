-- All that may name an object from outside, as one list.
use Rattle.std.specs.Prelude.{ℕ, ◌+◌, ◌-◌, List, [], ◌∷◌, ◌++◌, length, map, replicate, reverse}
use Rattle.std.specs.List.{flat_map}
use Rattle.cb_plain.specs.declared.value.Value.{Value}
use Rattle.cb_plain.specs.declared.value.Value.TheVariants as values
use Rattle.cb_plain.specs.State.{Frame, Initialising, MethodFrame, OfMethod, Roots, Tables}

-- what a value refers to, 0 where it is null or a number
abbrev pub referent : Value → ℕ
referent (values.Ref to) = to
referent other = 0

-- the slots of a frame: its local variables, its stack with the topmost value last, and what is free
abbrev pub free_slots : MethodFrame → ℕ
free_slots frame = frame.slots - (length frame.locals + length frame.stack)

abbrev pub frame_entries : Frame → List ℕ
frame_entries (OfMethod frame) =
    map referent frame.locals ++ reverse (map referent frame.stack) ++ replicate (free_slots frame) 0
frame_entries (Initialising class place) = []

abbrev pub table_entries : Tables → List ℕ
table_entries tables = tables.constants ++ tables.classes ++ tables.integers ++ tables.longs ++ tables.characters ++ tables.booleans

-- the slots of all frames, the lowest frame first, the static fields, the tables, the pending exception, and the array that waits for main
abbrev pub entries : Roots → List ℕ
entries roots =
    flat_map frame_entries (reverse roots.frames) ++ map referent roots.statics ++ table_entries roots.tables ++ roots.pending ∷ roots.argument ∷ []

-- the same roots with null in place of every reference
abbrev pub nulled : Value → Value
nulled (values.Ref to) = values.Ref 0
nulled other = other

abbrev pub nulled_frame : Frame → Frame
nulled_frame (OfMethod frame) =
    OfMethod (record { method = frame.method; pc = frame.pc; slots = frame.slots; locals = map nulled frame.locals; stack = map nulled frame.stack })
nulled_frame (Initialising class place) = Initialising class place

abbrev pub zeros : List ℕ → List ℕ
zeros table = replicate (length table) 0

abbrev pub nulled_tables : Tables → Tables
nulled_tables tables =
    record { constants = zeros tables.constants; classes = zeros tables.classes; integers = zeros tables.integers; longs = zeros tables.longs; characters = zeros tables.characters; booleans = zeros tables.booleans }

abbrev pub without_references : Roots → Roots
without_references roots =
    record { frames = map nulled_frame roots.frames; pending = 0; statics = map nulled roots.statics; classes = roots.classes; tables = nulled_tables roots.tables; argument = 0 }
