-- Reading goes through the walk over all that may name an object from outside, and leaves the rest of the roots as it is.
use Rattle.std.proofs.Common.{◌≡◌, ◌∙◌, ap, ap₂, sym, refl, ℕ, ◌+◌, List, [], ◌∷◌, ◌++◌, length, map, ◌-◌, replicate, reverse, zero, suc}
use Rattle.std.specs.List.{flat_map}
use Rattle.std.proofs.lemmas.List.{length-map, map-append}
use Rattle.cb_plain.specs.declared.value.Value.{Value}
use Rattle.cb_plain.specs.declared.value.Value.TheVariants as values
use Rattle.cb_plain.specs.State.{Frame, Initialising, OfMethod, Roots, Tables}
use Rattle.cb_frames.specs.Entries.{entries, frame_entries, free_slots, nulled, nulled_frame, nulled_tables, referent, table_entries, without_references}
use Rattle.cb_frames.proofs.Laws.{roots_from_entries}
use Rattle.cb_heap.specs.Reading.{read_frame, read_roots, read_tables, read_value, serial_of}
use Rattle.cb_heap.proofs.ReadingLaws.{map_reversed}

-- what values refer to
referent_read : (index : ℕ → ℕ) (value : Value) → referent (read_value index value) ≡ serial_of index (referent value)
referent_read index (values.Int number) = refl
referent_read index (values.Long number) = refl
referent_read index (values.Ref place) = refl

referents_read : (index : ℕ → ℕ) (held : List Value) → map referent (map (read_value index) held) ≡ map (serial_of index) (map referent held)
referents_read index [] = refl
referents_read index (value ∷ held) = ap₂ (λ (first : ℕ) (rest : List ℕ). first ∷ rest) (referent_read index value) (referents_read index held)

-- 0 is read as 0
zeros_read : (index : ℕ → ℕ) (count : ℕ) → map (serial_of index) (replicate count 0) ≡ replicate count 0
zeros_read index zero = refl
zeros_read index (suc count) = ap (λ rest. 0 ∷ rest) (zeros_read index count)

-- lists that are joined
joined_read : (index : ℕ → ℕ) (one other : List ℕ) {first second : List ℕ} → first ≡ map (serial_of index) one → second ≡ map (serial_of index) other →
    first ++ second ≡ map (serial_of index) (one ++ other)
joined_read index one other is also = ap₂ (λ (first second : List ℕ). first ++ second) is also ∙ sym (map-append (serial_of index) one other)

-- the slots of frames
stack_read : (index : ℕ → ℕ) (stack : List Value) → reverse (map referent (map (read_value index) stack)) ≡ map (serial_of index) (reverse (map referent stack))
stack_read index stack = ap reverse (referents_read index stack) ∙ sym (map_reversed (serial_of index) (map referent stack))

free_read : (index : ℕ → ℕ) (locals stack : List Value) (slots : ℕ) →
    replicate (slots - (length (map (read_value index) locals) + length (map (read_value index) stack))) 0 ≡ map (serial_of index) (replicate (slots - (length locals + length stack)) 0)
free_read index locals stack slots =
    ap₂ (λ (first second : ℕ). replicate (slots - (first + second)) 0) (length-map locals (read_value index)) (length-map stack (read_value index))
    ∙ sym (zeros_read index (slots - (length locals + length stack)))

frame_read : (index : ℕ → ℕ) (frame : Frame) → frame_entries (read_frame index frame) ≡ map (serial_of index) (frame_entries frame)
frame_read index (OfMethod frame) =
    let locals : List ℕ = map referent frame.locals in
    let stack : List ℕ = reverse (map referent frame.stack) in
    joined_read index (locals ++ stack) (replicate (free_slots frame) 0)
    (joined_read index locals stack (referents_read index frame.locals) (stack_read index frame.stack)) (free_read index frame.locals frame.stack frame.slots)
frame_read index (Initialising class place) = refl

frames_read : (index : ℕ → ℕ) (frames : List Frame) → flat_map frame_entries (map (read_frame index) frames) ≡ map (serial_of index) (flat_map frame_entries frames)
frames_read index [] = refl
frames_read index (frame ∷ frames) = joined_read index (frame_entries frame) (flat_map frame_entries frames) (frame_read index frame) (frames_read index frames)

tables_read : (index : ℕ → ℕ) (tables : Tables) → table_entries (read_tables index tables) ≡ map (serial_of index) (table_entries tables)
tables_read index tables =
    joined_read index (tables.constants ++ tables.classes ++ tables.integers ++ tables.longs ++ tables.characters) tables.booleans
    (joined_read index (tables.constants ++ tables.classes ++ tables.integers ++ tables.longs) tables.characters
    (joined_read index (tables.constants ++ tables.classes ++ tables.integers) tables.longs
    (joined_read index (tables.constants ++ tables.classes) tables.integers
    (joined_read index tables.constants tables.classes refl refl) refl) refl) refl) refl

pub entries_read : (index : ℕ → ℕ) (held : Roots) → entries (read_roots index held) ≡ map (serial_of index) (entries held)
entries_read index held =
    let frames : List ℕ = flat_map frame_entries (reverse held.frames) in
    let statics : List ℕ = map referent held.statics in
    joined_read index (frames ++ statics ++ table_entries held.tables) (held.pending ∷ held.argument ∷ [])
    (joined_read index (frames ++ statics) (table_entries held.tables)
    (joined_read index frames statics
    (ap (flat_map frame_entries) (sym (map_reversed (read_frame index) held.frames)) ∙ frames_read index (reverse held.frames))
    (referents_read index held.statics)) (tables_read index held.tables)) refl

-- what roots are without references
nulled_read : (index : ℕ → ℕ) (value : Value) → nulled (read_value index value) ≡ nulled value
nulled_read index (values.Int number) = refl
nulled_read index (values.Long number) = refl
nulled_read index (values.Ref place) = refl

each_read : {X Y : Type 0} (part : X → Y) (reads : X → X) → ((item : X) → part (reads item) ≡ part item) → (items : List X) → map part (map reads items) ≡ map part items
each_read part reads same [] = refl
each_read part reads same (item ∷ items) = rw (same item, each_read part reads same items) refl

nulled_frame_read : (index : ℕ → ℕ) (frame : Frame) → nulled_frame (read_frame index frame) ≡ nulled_frame frame
nulled_frame_read index (OfMethod frame) =
    rw (each_read nulled (read_value index) (nulled_read index) frame.locals, each_read nulled (read_value index) (nulled_read index) frame.stack) refl
nulled_frame_read index (Initialising class place) = refl

nulled_tables_read : (index : ℕ → ℕ) (tables : Tables) → nulled_tables (read_tables index tables) ≡ nulled_tables tables
nulled_tables_read index tables = simp length-map

pub bare_read : (index : ℕ → ℕ) (held : Roots) → without_references (read_roots index held) ≡ without_references held
bare_read index held =
    rw (
      each_read nulled_frame (read_frame index) (nulled_frame_read index) held.frames,
      each_read nulled (read_value index) (nulled_read index) held.statics,
      nulled_tables_read index held.tables,
    ) refl

-- roots that differ in references alone read alike where their entries do
pub entries_alike : (before after : ℕ → ℕ) (old new : Roots) → without_references new ≡ without_references old →
    map (serial_of after) (entries new) ≡ map (serial_of before) (entries old) → read_roots after new ≡ read_roots before old
entries_alike before after old new same alike =
    roots_from_entries (read_roots after new) (read_roots before old) (bare_read after new ∙ same ∙ sym (bare_read before old))
    (entries_read after new ∙ alike ∙ sym (entries_read before old))
