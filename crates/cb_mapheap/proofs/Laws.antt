-- Places that are serials.
use Rattle.std.proofs.Common.{◌≡◌, ◌∙◌, ap, refl, ℕ, zero, suc, pred, List, [], ◌∷◌, map}
use Rattle.cb_plain.specs.declared.value.Value.{Value}
use Rattle.cb_plain.specs.declared.value.Value.TheVariants as values
use Rattle.cb_plain.specs.State.{Frame, Initialising, OfMethod, Roots, Tables}
use Rattle.cb_heap.specs.Reading.{read_frame, read_roots, read_tables, read_value, serial_of}

pub serial_is : (place : ℕ) → serial_of pred place ≡ place
serial_is zero = refl
serial_is (suc place) = refl

value_is : (value : Value) → read_value pred value ≡ value
value_is (values.Int number) = refl
value_is (values.Long number) = refl
value_is (values.Ref place) = ap values.Ref (serial_is place)

all_same : {X : Type 0} (f : X → X) → ((item : X) → f item ≡ item) → (items : List X) → map f items ≡ items
all_same f same [] = refl
all_same f same (item ∷ items) = ap (λ first. first ∷ map f items) (same item) ∙ ap (λ rest. item ∷ rest) (all_same f same items)

frame_is : (frame : Frame) → read_frame pred frame ≡ frame
frame_is (OfMethod frame) =
    simp (all_same (read_value pred) value_is frame.locals, all_same (read_value pred) value_is frame.stack)
frame_is (Initialising class place) = refl

tables_are : (tables : Tables) → read_tables pred tables ≡ tables
tables_are tables =
    simp (all_same (serial_of pred) serial_is tables.constants, all_same (serial_of pred) serial_is tables.classes, all_same (serial_of pred) serial_is tables.integers, all_same (serial_of pred) serial_is tables.longs, all_same (serial_of pred) serial_is tables.characters, all_same (serial_of pred) serial_is tables.booleans)

-- roots read as themselves
pub roots_are : (roots : Roots) → read_roots pred roots ≡ roots
roots_are roots =
    simp (all_same (read_frame pred) frame_is roots.frames, serial_is roots.pending, all_same (read_value pred) value_is roots.statics, tables_are roots.tables, serial_is roots.argument)
