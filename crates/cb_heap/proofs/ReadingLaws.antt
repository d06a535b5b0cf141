-- Reading goes through every change of the roots.
use Rattle.std.proofs.Common.{◌≡◌, ◌∙◌, ap, ap₂, sym, refl, ℕ, ◌+◌, ◌*◌, ◌&&◌, nat_le, nat_lt, List, [], ◌∷◌, ◌++◌, length, map, pos, replicate, ◌-◌, take, reverse, zero, suc}
use Rattle.std.specs.List.{flat_map, fold}
use Rattle.std.proofs.lemmas.List.{drop-map, length-map, map-append, map-set, reverse-append, take-map}
use Rattle.cb_plain.specs.declared.class_state.ClassState.{ClassState}
use Rattle.cb_plain.specs.declared.table.Table.{Table}
use Rattle.cb_plain.specs.declared.table.Table.TheVariants as tables
use Rattle.cb_plain.specs.declared.value.Value.{Value}
use Rattle.cb_plain.specs.declared.value.Value.TheVariants as values
use Rattle.cb_plain.specs.Depth.{frame_of, has_room, locals_of, slots_each, slots_in, slots_of}
use Rattle.cb_plain.specs.Roots as roots
use Rattle.cb_plain.specs.State.{Frame, Initialising, OfMethod, Roots}
use Rattle.cb_frames.specs.Tops as tops
use Rattle.cb_heap.specs.Reading.{read_frame, read_roots, read_value, serial_of}

-- reading

pub reads_pending : (index : ℕ → ℕ) (held : Roots) (place : ℕ) →
    read_roots index (roots.with_pending held place) ≡ roots.with_pending (read_roots index held) (serial_of index place)
reads_pending index held place = refl

pub reads_argument : (index : ℕ → ℕ) (held : Roots) (place : ℕ) →
    read_roots index (roots.with_argument held place) ≡ roots.with_argument (read_roots index held) (serial_of index place)
reads_argument index held place = refl

pub reads_class : (index : ℕ → ℕ) (held : Roots) (class : ℕ) (now : ClassState) →
    read_roots index (roots.with_class held class now) ≡ roots.with_class (read_roots index held) class now
reads_class index held class now = refl

pub reads_static : (index : ℕ → ℕ) (held : Roots) (slot : ℕ) (value : Value) →
    read_roots index (roots.with_static held slot value) ≡ roots.with_static (read_roots index held) slot (read_value index value)
reads_static index held slot value = rw (map-set (read_value index) held.statics slot value) refl

pub reads_entry : (index : ℕ → ℕ) (held : Roots) (table : Table) (place to : ℕ) →
    read_roots index (roots.with_entry held table place to) ≡ roots.with_entry (read_roots index held) table place (serial_of index to)
reads_entry index held tables.Constants place to = rw (map-set (serial_of index) held.tables.constants place to) refl
reads_entry index held tables.ClassObjects place to = rw (map-set (serial_of index) held.tables.classes place to) refl
reads_entry index held tables.Integers place to = rw (map-set (serial_of index) held.tables.integers place to) refl
reads_entry index held tables.Longs place to = rw (map-set (serial_of index) held.tables.longs place to) refl
reads_entry index held tables.Characters place to = rw (map-set (serial_of index) held.tables.characters place to) refl
reads_entry index held tables.Booleans place to = rw (map-set (serial_of index) held.tables.booleans place to) refl

-- reading goes through what is done to the topmost frame

reads_top_frame : (index : ℕ → ℕ) (held : Roots) (frames : List Frame) →
    tops.top_stack (read_roots index (roots.with_frames held frames)) ≡ map (read_value index) (tops.top_stack (roots.with_frames held frames))
reads_top_frame index held [] = refl
reads_top_frame index held (OfMethod frame ∷ below) = refl
reads_top_frame index held (Initialising class place ∷ below) = refl

pub reads_stack : (index : ℕ → ℕ) (held : Roots) → tops.top_stack (read_roots index held) ≡ map (read_value index) (tops.top_stack held)
reads_stack index held = reads_top_frame index held held.frames

reads_top_locals : (index : ℕ → ℕ) (held : Roots) (frames : List Frame) →
    tops.top_locals (read_roots index (roots.with_frames held frames)) ≡ map (read_value index) (tops.top_locals (roots.with_frames held frames))
reads_top_locals index held [] = refl
reads_top_locals index held (OfMethod frame ∷ below) = refl
reads_top_locals index held (Initialising class place ∷ below) = refl

pub reads_locals : (index : ℕ → ℕ) (held : Roots) → tops.top_locals (read_roots index held) ≡ map (read_value index) (tops.top_locals held)
reads_locals index held = reads_top_locals index held held.frames

reads_pushed_on : (index : ℕ → ℕ) (held : Roots) (value : Value) (frames : List Frame) →
    read_roots index (tops.pushed (roots.with_frames held frames) value) ≡ tops.pushed (read_roots index (roots.with_frames held frames)) (read_value index value)
reads_pushed_on index held value [] = refl
reads_pushed_on index held value (OfMethod frame ∷ below) = refl
reads_pushed_on index held value (Initialising class place ∷ below) = refl

pub reads_pushed : (index : ℕ → ℕ) (held : Roots) (value : Value) → read_roots index (tops.pushed held value) ≡ tops.pushed (read_roots index held) (read_value index value)
reads_pushed index held value = reads_pushed_on index held value held.frames

reads_without_on : (index : ℕ → ℕ) (held : Roots) (count : ℕ) (frames : List Frame) →
    read_roots index (tops.without (roots.with_frames held frames) count) ≡ tops.without (read_roots index (roots.with_frames held frames)) count
reads_without_on index held count [] = refl
reads_without_on index held count (OfMethod frame ∷ below) = rw (drop-map (read_value index) count frame.stack) refl
reads_without_on index held count (Initialising class place ∷ below) = refl

pub reads_without : (index : ℕ → ℕ) (held : Roots) (count : ℕ) → read_roots index (tops.without held count) ≡ tops.without (read_roots index held) count
reads_without index held count = reads_without_on index held count held.frames

reads_cleared_on : (index : ℕ → ℕ) (held : Roots) (frames : List Frame) →
    read_roots index (tops.cleared (roots.with_frames held frames)) ≡ tops.cleared (read_roots index (roots.with_frames held frames))
reads_cleared_on index held [] = refl
reads_cleared_on index held (OfMethod frame ∷ below) = refl
reads_cleared_on index held (Initialising class place ∷ below) = refl

pub reads_cleared : (index : ℕ → ℕ) (held : Roots) → read_roots index (tops.cleared held) ≡ tops.cleared (read_roots index held)
reads_cleared index held = reads_cleared_on index held held.frames

reads_placed_on : (index : ℕ → ℕ) (held : Roots) (place : ℕ) (frames : List Frame) →
    read_roots index (tops.placed (roots.with_frames held frames) place) ≡ tops.placed (read_roots index (roots.with_frames held frames)) place
reads_placed_on index held place [] = refl
reads_placed_on index held place (OfMethod frame ∷ below) = refl
reads_placed_on index held place (Initialising class before ∷ below) = refl

pub reads_placed : (index : ℕ → ℕ) (held : Roots) (place : ℕ) → read_roots index (tops.placed held place) ≡ tops.placed (read_roots index held) place
reads_placed index held place = reads_placed_on index held place held.frames

reads_local_on : (index : ℕ → ℕ) (held : Roots) (local : ℕ) (value : Value) (frames : List Frame) →
    read_roots index (tops.with_local (roots.with_frames held frames) local value) ≡ tops.with_local (read_roots index (roots.with_frames held frames)) local (read_value index value)
reads_local_on index held local value [] = refl
reads_local_on index held local value (OfMethod frame ∷ below) = rw (map-set (read_value index) frame.locals local value) refl
reads_local_on index held local value (Initialising class place ∷ below) = refl

pub reads_local : (index : ℕ → ℕ) (held : Roots) (local : ℕ) (value : Value) →
    read_roots index (tops.with_local held local value) ≡ tops.with_local (read_roots index held) local (read_value index value)
reads_local index held local value = reads_local_on index held local value held.frames

pub reads_left : (index : ℕ → ℕ) (held : Roots) → read_roots index (tops.left held) ≡ tops.left (read_roots index held)
reads_left index held = rw (drop-map (read_frame index) 1 held.frames) refl

pub reads_entered_init : (index : ℕ → ℕ) (held : Roots) (class : ℕ) → read_roots index (tops.entered_init held class) ≡ tops.entered_init (read_roots index held) class
reads_entered_init index held class = refl

-- a value in slots, and the local variables at an entry
reads_slots : (index : ℕ → ℕ) (value : Value) → map (read_value index) (slots_of value) ≡ slots_of (read_value index value)
reads_slots index (values.Int number) = refl
reads_slots index (values.Long number) = refl
reads_slots index (values.Ref place) = refl

reads_all_slots : (index : ℕ → ℕ) (held : List Value) → map (read_value index) (flat_map slots_of held) ≡ flat_map slots_of (map (read_value index) held)
reads_all_slots index [] = refl
reads_all_slots index (value ∷ held) =
    map-append (read_value index) (slots_of value) (flat_map slots_of held)
    ∙ ap (λ first. first ++ map (read_value index) (flat_map slots_of held)) (reads_slots index value)
    ∙ ap (λ rest. slots_of (read_value index value) ++ rest) (reads_all_slots index held)

reads_blank : (index : ℕ → ℕ) (count : ℕ) → map (read_value index) (replicate count (values.Int (pos 0))) ≡ replicate count (values.Int (pos 0))
reads_blank index zero = refl
reads_blank index (suc count) = ap (λ rest. values.Int (pos 0) ∷ rest) (reads_blank index count)

pub reads_locals_of : (index : ℕ → ℕ) (count : ℕ) (arguments : List Value) → map (read_value index) (locals_of count arguments) ≡ locals_of count (map (read_value index) arguments)
reads_locals_of index count arguments =
    let slots : List Value = flat_map slots_of arguments in
    let size : length slots ≡ length (flat_map slots_of (map (read_value index) arguments)) = sym (length-map slots (read_value index)) ∙ ap length (reads_all_slots index arguments) in
    map-append (read_value index) slots (replicate (count - length slots) (values.Int (pos 0)))
    ∙ ap (λ first. first ++ map (read_value index) (replicate (count - length slots) (values.Int (pos 0)))) (reads_all_slots index arguments)
    ∙ ap (λ rest. flat_map slots_of (map (read_value index) arguments) ++ rest) (reads_blank index (count - length slots) ∙ ap (λ taken. replicate (count - taken) (values.Int (pos 0))) size)

pub map_reversed : {X Y : Type 0} (f : X → Y) (items : List X) → map f (reverse items) ≡ reverse (map f items)
map_reversed f [] = refl
map_reversed f (item ∷ items) =
    ap (map f) (reverse-append (item ∷ []) items)
    ∙ map-append f (reverse items) (item ∷ [])
    ∙ ap (λ front. front ++ f item ∷ []) (map_reversed f items)
    ∙ sym (reverse-append (f item ∷ []) (map f items))

pub reads_arguments : (index : ℕ → ℕ) (held : Roots) (count : ℕ) → map (read_value index) (tops.arguments_of held count) ≡ tops.arguments_of (read_roots index held) count
reads_arguments index held count =
    map_reversed (read_value index) (take count (tops.top_stack held))
    ∙ ap reverse (sym (take-map (read_value index) count (tops.top_stack held)) ∙ ap (take count) (sym (reads_stack index held)))

pub reads_entered : (index : ℕ → ℕ) (held : Roots) (method arguments locals stack : ℕ) →
    read_roots index (tops.entered held method arguments locals stack) ≡ tops.entered (read_roots index held) method arguments locals stack
reads_entered index held method arguments locals stack =
    ap (λ held_locals. roots.with_frames (read_roots index held) (OfMethod (record { method = method; pc = 0; slots = locals + stack; locals = held_locals; stack = [] }) ∷ map (read_frame index) (tops.without held arguments).frames))
    (reads_locals_of index locals (tops.arguments_of held arguments) ∙ ap (locals_of locals) (reads_arguments index held arguments))
    ∙ ap (λ below. roots.with_frames (read_roots index held) (frame_of method locals stack (tops.arguments_of (read_roots index held) arguments) ∷ below)) (ap (λ left. left.frames) (reads_without index held arguments))

-- frames that are read take as many slots, so that another has room upon them where it had
reads_taken : (index : ℕ → ℕ) (frames : List Frame) (sum : ℕ) →
    fold (λ sum frame. sum + slots_in frame) sum (map (read_frame index) frames) ≡ fold (λ sum frame. sum + slots_in frame) sum frames
reads_taken index [] sum = refl
reads_taken index (OfMethod frame ∷ below) sum = reads_taken index below (sum + frame.slots)
reads_taken index (Initialising class place ∷ below) sum = reads_taken index below (sum + 0)

pub reads_room : (index : ℕ → ℕ) (held : Roots) (limit slots : ℕ) → has_room limit (read_roots index held).frames slots ≡ has_room limit held.frames slots
reads_room index held limit slots =
    ap₂ (λ (count taken : ℕ). nat_lt count limit && nat_le (taken + slots) (slots_each * limit)) (length-map held.frames (read_frame index)) (reads_taken index held.frames 0)
