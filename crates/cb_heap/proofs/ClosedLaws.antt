-- Views stay closed.
use Rattle.std.proofs.Common.{◌≡◌, ◌∙◌, ap, sym, refl, ℕ, Bool, true, false, ◌&&◌, List, [], ◌∷◌, ◌++◌, length, pos, replicate, ◌-◌, drop, take, reverse, slice_set, zero, suc, IsTrue}
use Rattle.std.specs.List.{flat_map, list_all}
use Rattle.std.proofs.lemmas.List.{reverse-append}
use Rattle.std.proofs.lemmas.Bool.{false≢true}
use Rattle.std.proofs.lemmas.Grind.{flat_map-append}
use Rattle.std.proofs.lemmas.List.Folds.{list_all-append}
use Rattle.cb_plain.specs.declared.class_state.ClassState.{ClassState}
use Rattle.cb_plain.specs.declared.table.Table.{Table}
use Rattle.cb_plain.specs.declared.table.Table.TheVariants as tables
use Rattle.cb_plain.specs.declared.value.Value.{Value}
use Rattle.cb_plain.specs.declared.value.Value.TheVariants as values
use Rattle.cb_plain.specs.Depth.{frame_of, locals_of, slots_of}
use Rattle.cb_plain.specs.Reach.{frame_references, reference_in, references_in, root_references, table_references, unless_null}
use Rattle.cb_plain.specs.Roots as roots
use Rattle.cb_plain.specs.State.{Frame, Initialising, OfMethod, Roots, Tables}
use Rattle.cb_frames.specs.Tops as tops

pub all_of : {X : Type 0} (test : X → Bool) (one other : List X) → IsTrue (list_all test one) → IsTrue (list_all test other) → IsTrue (list_all test (one ++ other))
all_of test one other first second = list_all-append test one other ∙ both first second where
  both : {a b : Bool} → a ≡ true → b ≡ true → (a && b) ≡ true
  both first second = rw (first, second) refl

pub first_part : (a b : Bool) → (a && b) ≡ true → a ≡ true
first_part true b is = refl
first_part false b is = is

pub second_part : (a b : Bool) → (a && b) ≡ true → b ≡ true
second_part true b is = is
second_part false b is = absurd (false≢true is)

pub front_of : {X : Type 0} (test : X → Bool) (one other : List X) → IsTrue (list_all test (one ++ other)) → IsTrue (list_all test one)
front_of test one other all = first_part (list_all test one) (list_all test other) (sym (list_all-append test one other) ∙ all)

pub rest_of : {X : Type 0} (test : X → Bool) (one other : List X) → IsTrue (list_all test (one ++ other)) → IsTrue (list_all test other)
rest_of test one other all = second_part (list_all test one) (list_all test other) (sym (list_all-append test one other) ∙ all)

-- all that a list of parts comes to, with another part in it
pub all_with : {X Y : Type 0} (test : Y → Bool) (part : X → List Y) (items : List X) (place : ℕ) (item : X) →
    IsTrue (list_all test (flat_map part items)) → IsTrue (list_all test (part item)) → IsTrue (list_all test (flat_map part (slice_set items place item)))
all_with test part [] place item all new = all
all_with test part (old ∷ items) zero item all new = all_of test (part item) (flat_map part items) new (rest_of test (part old) (flat_map part items) all)
all_with test part (old ∷ items) (suc place) item all new =
    all_of test (part old) (flat_map part (slice_set items place item)) (front_of test (part old) (flat_map part items) all)
    (all_with test part items place item (rest_of test (part old) (flat_map part items) all) new)

all_dropped : {X Y : Type 0} (test : Y → Bool) (part : X → List Y) (items : List X) (count : ℕ) →
    IsTrue (list_all test (flat_map part items)) → IsTrue (list_all test (flat_map part (drop count items)))
all_dropped test part items zero all = all
all_dropped test part [] (suc count) all = all
all_dropped test part (item ∷ items) (suc count) all = all_dropped test part items count (rest_of test (part item) (flat_map part items) all)

-- all references of roots, part by part
first_4 : (test : ℕ → Bool) (held : Roots) → IsTrue (list_all test (root_references held)) → IsTrue (list_all test (flat_map frame_references held.frames ++ references_in held.statics ++ table_references held.tables ++ unless_null held.pending))
first_4 test held all = front_of test (flat_map frame_references held.frames ++ references_in held.statics ++ table_references held.tables ++ unless_null held.pending) (unless_null held.argument) all

first_3 : (test : ℕ → Bool) (held : Roots) → IsTrue (list_all test (root_references held)) → IsTrue (list_all test (flat_map frame_references held.frames ++ references_in held.statics ++ table_references held.tables))
first_3 test held all = front_of test (flat_map frame_references held.frames ++ references_in held.statics ++ table_references held.tables) (unless_null held.pending) (first_4 test held all)

first_2 : (test : ℕ → Bool) (held : Roots) → IsTrue (list_all test (root_references held)) → IsTrue (list_all test (flat_map frame_references held.frames ++ references_in held.statics))
first_2 test held all = front_of test (flat_map frame_references held.frames ++ references_in held.statics) (table_references held.tables) (first_3 test held all)

pub frames_of : (test : ℕ → Bool) (held : Roots) → IsTrue (list_all test (root_references held)) → IsTrue (list_all test (flat_map frame_references held.frames))
frames_of test held all = front_of test (flat_map frame_references held.frames) (references_in held.statics) (first_2 test held all)

pub statics_of : (test : ℕ → Bool) (held : Roots) → IsTrue (list_all test (root_references held)) → IsTrue (list_all test (references_in held.statics))
statics_of test held all = rest_of test (flat_map frame_references held.frames) (references_in held.statics) (first_2 test held all)

pub tables_of : (test : ℕ → Bool) (held : Roots) → IsTrue (list_all test (root_references held)) → IsTrue (list_all test (table_references held.tables))
tables_of test held all = rest_of test (flat_map frame_references held.frames ++ references_in held.statics) (table_references held.tables) (first_3 test held all)

pub pending_of : (test : ℕ → Bool) (held : Roots) → IsTrue (list_all test (root_references held)) → IsTrue (list_all test (unless_null held.pending))
pending_of test held all = rest_of test (flat_map frame_references held.frames ++ references_in held.statics ++ table_references held.tables) (unless_null held.pending) (first_4 test held all)

pub argument_of : (test : ℕ → Bool) (held : Roots) → IsTrue (list_all test (root_references held)) → IsTrue (list_all test (unless_null held.argument))
argument_of test held all = rest_of test (flat_map frame_references held.frames ++ references_in held.statics ++ table_references held.tables ++ unless_null held.pending) (unless_null held.argument) all

pub joined : (test : ℕ → Bool) (held : Roots) → IsTrue (list_all test (flat_map frame_references held.frames)) → IsTrue (list_all test (references_in held.statics)) →
    IsTrue (list_all test (table_references held.tables)) → IsTrue (list_all test (unless_null held.pending)) → IsTrue (list_all test (unless_null held.argument)) → IsTrue (list_all test (root_references held))
joined test held frames statics tables pending argument =
    all_of test (flat_map frame_references held.frames ++ references_in held.statics ++ table_references held.tables ++ unless_null held.pending) (unless_null held.argument) (all_of test (flat_map frame_references held.frames ++ references_in held.statics ++ table_references held.tables) (unless_null held.pending) (all_of test (flat_map frame_references held.frames ++ references_in held.statics) (table_references held.tables) (all_of test (flat_map frame_references held.frames) (references_in held.statics) frames statics) tables) pending) argument

pub closed_frames : (test : ℕ → Bool) (held : Roots) (frames : List Frame) → IsTrue (list_all test (root_references held)) → IsTrue (list_all test (flat_map frame_references frames)) →
    IsTrue (list_all test (root_references (roots.with_frames held frames)))
closed_frames test held frames all new =
    joined test (roots.with_frames held frames) new (statics_of test held all) (tables_of test held all) (pending_of test held all) (argument_of test held all)

pub closed_pending : (test : ℕ → Bool) (held : Roots) (serial : ℕ) → IsTrue (list_all test (root_references held)) → IsTrue (list_all test (unless_null serial)) →
    IsTrue (list_all test (root_references (roots.with_pending held serial)))
closed_pending test held serial all new =
    joined test (roots.with_pending held serial) (frames_of test held all) (statics_of test held all) (tables_of test held all) new (argument_of test held all)

pub closed_argument : (test : ℕ → Bool) (held : Roots) (serial : ℕ) → IsTrue (list_all test (root_references held)) → IsTrue (list_all test (unless_null serial)) →
    IsTrue (list_all test (root_references (roots.with_argument held serial)))
closed_argument test held serial all new =
    joined test (roots.with_argument held serial) (frames_of test held all) (statics_of test held all) (tables_of test held all) (pending_of test held all) new

pub closed_static : (test : ℕ → Bool) (held : Roots) (slot : ℕ) (value : Value) → IsTrue (list_all test (root_references held)) → IsTrue (list_all test (reference_in value)) →
    IsTrue (list_all test (root_references (roots.with_static held slot value)))
closed_static test held slot value all new =
    joined test (roots.with_static held slot value) (frames_of test held all) (all_with test reference_in held.statics slot value (statics_of test held all) new) (tables_of test held all)
    (pending_of test held all) (argument_of test held all)

pub closed_class : (test : ℕ → Bool) (held : Roots) (class : ℕ) (now : ClassState) → IsTrue (list_all test (root_references held)) →
    IsTrue (list_all test (root_references (roots.with_class held class now)))
closed_class test held class now all = all

-- the tables are gone through as one list
along : (test : ℕ → Bool) (one other : List ℕ) → IsTrue (list_all test (flat_map unless_null one)) → IsTrue (list_all test (flat_map unless_null other)) →
    IsTrue (list_all test (flat_map unless_null (one ++ other)))
along test one other first second =
    ap (list_all test) (flat_map-append unless_null one other) ∙ all_of test (flat_map unless_null one) (flat_map unless_null other) first second

front_along : (test : ℕ → Bool) (one other : List ℕ) → IsTrue (list_all test (flat_map unless_null (one ++ other))) → IsTrue (list_all test (flat_map unless_null one))
front_along test one other all = front_of test (flat_map unless_null one) (flat_map unless_null other) (ap (list_all test) (sym (flat_map-append unless_null one other)) ∙ all)

rest_along : (test : ℕ → Bool) (one other : List ℕ) → IsTrue (list_all test (flat_map unless_null (one ++ other))) → IsTrue (list_all test (flat_map unless_null other))
rest_along test one other all = rest_of test (flat_map unless_null one) (flat_map unless_null other) (ap (list_all test) (sym (flat_map-append unless_null one other)) ∙ all)

tables_5 : (test : ℕ → Bool) (held : Tables) → IsTrue (list_all test (table_references held)) → IsTrue (list_all test (flat_map unless_null (held.constants ++ held.classes ++ held.integers ++ held.longs ++ held.characters)))
tables_5 test held all = front_along test (held.constants ++ held.classes ++ held.integers ++ held.longs ++ held.characters) held.booleans all

tables_4 : (test : ℕ → Bool) (held : Tables) → IsTrue (list_all test (table_references held)) → IsTrue (list_all test (flat_map unless_null (held.constants ++ held.classes ++ held.integers ++ held.longs)))
tables_4 test held all = front_along test (held.constants ++ held.classes ++ held.integers ++ held.longs) held.characters (tables_5 test held all)

tables_3 : (test : ℕ → Bool) (held : Tables) → IsTrue (list_all test (table_references held)) → IsTrue (list_all test (flat_map unless_null (held.constants ++ held.classes ++ held.integers)))
tables_3 test held all = front_along test (held.constants ++ held.classes ++ held.integers) held.longs (tables_4 test held all)

tables_2 : (test : ℕ → Bool) (held : Tables) → IsTrue (list_all test (table_references held)) → IsTrue (list_all test (flat_map unless_null (held.constants ++ held.classes)))
tables_2 test held all = front_along test (held.constants ++ held.classes) held.integers (tables_3 test held all)

tables_1 : (test : ℕ → Bool) (held : Tables) → IsTrue (list_all test (table_references held)) → IsTrue (list_all test (flat_map unless_null (held.constants)))
tables_1 test held all = front_along test (held.constants) held.classes (tables_2 test held all)

pub constants_of : (test : ℕ → Bool) (held : Tables) → IsTrue (list_all test (table_references held)) → IsTrue (list_all test (flat_map unless_null held.constants))
constants_of test held all = tables_1 test held all

pub classes_of : (test : ℕ → Bool) (held : Tables) → IsTrue (list_all test (table_references held)) → IsTrue (list_all test (flat_map unless_null held.classes))
classes_of test held all = rest_along test (held.constants) held.classes (tables_2 test held all)

pub integers_of : (test : ℕ → Bool) (held : Tables) → IsTrue (list_all test (table_references held)) → IsTrue (list_all test (flat_map unless_null held.integers))
integers_of test held all = rest_along test (held.constants ++ held.classes) held.integers (tables_3 test held all)

pub longs_of : (test : ℕ → Bool) (held : Tables) → IsTrue (list_all test (table_references held)) → IsTrue (list_all test (flat_map unless_null held.longs))
longs_of test held all = rest_along test (held.constants ++ held.classes ++ held.integers) held.longs (tables_4 test held all)

pub characters_of : (test : ℕ → Bool) (held : Tables) → IsTrue (list_all test (table_references held)) → IsTrue (list_all test (flat_map unless_null held.characters))
characters_of test held all = rest_along test (held.constants ++ held.classes ++ held.integers ++ held.longs) held.characters (tables_5 test held all)

pub booleans_of : (test : ℕ → Bool) (held : Tables) → IsTrue (list_all test (table_references held)) → IsTrue (list_all test (flat_map unless_null held.booleans))
booleans_of test held all = rest_along test (held.constants ++ held.classes ++ held.integers ++ held.longs ++ held.characters) held.booleans all

pub joined_tables : (test : ℕ → Bool) (held : Tables) → IsTrue (list_all test (flat_map unless_null held.constants)) → IsTrue (list_all test (flat_map unless_null held.classes)) → IsTrue (list_all test (flat_map unless_null held.integers)) → IsTrue (list_all test (flat_map unless_null held.longs)) → IsTrue (list_all test (flat_map unless_null held.characters)) → IsTrue (list_all test (flat_map unless_null held.booleans)) → IsTrue (list_all test (table_references held))
joined_tables test held constants classes integers longs characters booleans =
    along test (held.constants ++ held.classes ++ held.integers ++ held.longs ++ held.characters) held.booleans (along test (held.constants ++ held.classes ++ held.integers ++ held.longs) held.characters (along test (held.constants ++ held.classes ++ held.integers) held.longs (along test (held.constants ++ held.classes) held.integers (along test held.constants held.classes constants classes) integers) longs) characters) booleans

closed_tables : (test : ℕ → Bool) (held : Roots) (table : Table) (place serial : ℕ) → IsTrue (list_all test (table_references held.tables)) → IsTrue (list_all test (unless_null serial)) →
    IsTrue (list_all test (table_references (roots.with_entry held table place serial).tables))
closed_tables test held tables.Constants place serial all new =
    joined_tables test (roots.with_entry held tables.Constants place serial).tables (all_with test unless_null held.tables.constants place serial (constants_of test held.tables all) new) (classes_of test held.tables all) (integers_of test held.tables all) (longs_of test held.tables all) (characters_of test held.tables all) (booleans_of test held.tables all)
closed_tables test held tables.ClassObjects place serial all new =
    joined_tables test (roots.with_entry held tables.ClassObjects place serial).tables (constants_of test held.tables all) (all_with test unless_null held.tables.classes place serial (classes_of test held.tables all) new) (integers_of test held.tables all) (longs_of test held.tables all) (characters_of test held.tables all) (booleans_of test held.tables all)
closed_tables test held tables.Integers place serial all new =
    joined_tables test (roots.with_entry held tables.Integers place serial).tables (constants_of test held.tables all) (classes_of test held.tables all) (all_with test unless_null held.tables.integers place serial (integers_of test held.tables all) new) (longs_of test held.tables all) (characters_of test held.tables all) (booleans_of test held.tables all)
closed_tables test held tables.Longs place serial all new =
    joined_tables test (roots.with_entry held tables.Longs place serial).tables (constants_of test held.tables all) (classes_of test held.tables all) (integers_of test held.tables all) (all_with test unless_null held.tables.longs place serial (longs_of test held.tables all) new) (characters_of test held.tables all) (booleans_of test held.tables all)
closed_tables test held tables.Characters place serial all new =
    joined_tables test (roots.with_entry held tables.Characters place serial).tables (constants_of test held.tables all) (classes_of test held.tables all) (integers_of test held.tables all) (longs_of test held.tables all) (all_with test unless_null held.tables.characters place serial (characters_of test held.tables all) new) (booleans_of test held.tables all)
closed_tables test held tables.Booleans place serial all new =
    joined_tables test (roots.with_entry held tables.Booleans place serial).tables (constants_of test held.tables all) (classes_of test held.tables all) (integers_of test held.tables all) (longs_of test held.tables all) (characters_of test held.tables all) (all_with test unless_null held.tables.booleans place serial (booleans_of test held.tables all) new)

pub closed_entry : (test : ℕ → Bool) (held : Roots) (table : Table) (place serial : ℕ) → IsTrue (list_all test (root_references held)) → IsTrue (list_all test (unless_null serial)) →
    IsTrue (list_all test (root_references (roots.with_entry held table place serial)))
closed_entry test held table place serial all new =
    joined test (roots.with_entry held table place serial) (frames_of test held all) (statics_of test held all) (closed_tables test held table place serial (tables_of test held all) new)
    (pending_of test held all) (argument_of test held all)

-- what is done to the topmost frame
closed_top : (test : ℕ → Bool) (held : Roots) (frame now : Frame) (below : List Frame) → IsTrue (list_all test (root_references (roots.with_frames held (frame ∷ below)))) →
    IsTrue (list_all test (frame_references now)) → IsTrue (list_all test (root_references (roots.with_frames held (now ∷ below))))
closed_top test held frame now below all new =
    closed_frames test (roots.with_frames held (frame ∷ below)) (now ∷ below) all
    (all_of test (frame_references now) (flat_map frame_references below) new
    (rest_of test (frame_references frame) (flat_map frame_references below) (frames_of test (roots.with_frames held (frame ∷ below)) all)))

top_held : (test : ℕ → Bool) (held : Roots) (frame : Frame) (below : List Frame) → IsTrue (list_all test (root_references (roots.with_frames held (frame ∷ below)))) →
    IsTrue (list_all test (frame_references frame))
top_held test held frame below all = front_of test (frame_references frame) (flat_map frame_references below) (frames_of test (roots.with_frames held (frame ∷ below)) all)

closed_pushed_on : (test : ℕ → Bool) (held : Roots) (value : Value) (frames : List Frame) → IsTrue (list_all test (root_references (roots.with_frames held frames))) →
    IsTrue (list_all test (reference_in value)) → IsTrue (list_all test (root_references (tops.pushed (roots.with_frames held frames) value)))
closed_pushed_on test held value [] all new = all
closed_pushed_on test held value (Initialising class place ∷ below) all new = all
closed_pushed_on test held value (OfMethod frame ∷ below) all new =
    let top = top_held test held (OfMethod frame) below all in
    closed_top test held (OfMethod frame) (OfMethod (record { method = frame.method; pc = frame.pc; slots = frame.slots; locals = frame.locals; stack = value ∷ frame.stack })) below all
    (all_of test (references_in frame.locals) (reference_in value ++ references_in frame.stack) (front_of test (references_in frame.locals) (references_in frame.stack) top)
    (all_of test (reference_in value) (references_in frame.stack) new (rest_of test (references_in frame.locals) (references_in frame.stack) top)))

pub closed_pushed : (test : ℕ → Bool) (held : Roots) (value : Value) → IsTrue (list_all test (root_references held)) → IsTrue (list_all test (reference_in value)) →
    IsTrue (list_all test (root_references (tops.pushed held value)))
closed_pushed test held value all new = closed_pushed_on test held value held.frames all new

closed_without_on : (test : ℕ → Bool) (held : Roots) (count : ℕ) (frames : List Frame) → IsTrue (list_all test (root_references (roots.with_frames held frames))) →
    IsTrue (list_all test (root_references (tops.without (roots.with_frames held frames) count)))
closed_without_on test held count [] all = all
closed_without_on test held count (Initialising class place ∷ below) all = all
closed_without_on test held count (OfMethod frame ∷ below) all =
    let top = top_held test held (OfMethod frame) below all in
    closed_top test held (OfMethod frame) (OfMethod (record { method = frame.method; pc = frame.pc; slots = frame.slots; locals = frame.locals; stack = drop count frame.stack })) below all
    (all_of test (references_in frame.locals) (references_in (drop count frame.stack)) (front_of test (references_in frame.locals) (references_in frame.stack) top)
    (all_dropped test reference_in frame.stack count (rest_of test (references_in frame.locals) (references_in frame.stack) top)))

pub closed_without : (test : ℕ → Bool) (held : Roots) (count : ℕ) → IsTrue (list_all test (root_references held)) → IsTrue (list_all test (root_references (tops.without held count)))
closed_without test held count all = closed_without_on test held count held.frames all

closed_cleared_on : (test : ℕ → Bool) (held : Roots) (frames : List Frame) → IsTrue (list_all test (root_references (roots.with_frames held frames))) →
    IsTrue (list_all test (root_references (tops.cleared (roots.with_frames held frames))))
closed_cleared_on test held [] all = all
closed_cleared_on test held (Initialising class place ∷ below) all = all
closed_cleared_on test held (OfMethod frame ∷ below) all =
    closed_top test held (OfMethod frame) (OfMethod (record { method = frame.method; pc = frame.pc; slots = frame.slots; locals = frame.locals; stack = [] })) below all
    (all_of test (references_in frame.locals) [] (front_of test (references_in frame.locals) (references_in frame.stack) (top_held test held (OfMethod frame) below all)) refl)

pub closed_cleared : (test : ℕ → Bool) (held : Roots) → IsTrue (list_all test (root_references held)) → IsTrue (list_all test (root_references (tops.cleared held)))
closed_cleared test held all = closed_cleared_on test held held.frames all

closed_placed_on : (test : ℕ → Bool) (held : Roots) (place : ℕ) (frames : List Frame) → IsTrue (list_all test (root_references (roots.with_frames held frames))) →
    IsTrue (list_all test (root_references (tops.placed (roots.with_frames held frames) place)))
closed_placed_on test held place [] all = all
closed_placed_on test held place (Initialising class before ∷ below) all = all
closed_placed_on test held place (OfMethod frame ∷ below) all = all

pub closed_placed : (test : ℕ → Bool) (held : Roots) (place : ℕ) → IsTrue (list_all test (root_references held)) → IsTrue (list_all test (root_references (tops.placed held place)))
closed_placed test held place all = closed_placed_on test held place held.frames all

closed_local_on : (test : ℕ → Bool) (held : Roots) (local : ℕ) (value : Value) (frames : List Frame) → IsTrue (list_all test (root_references (roots.with_frames held frames))) →
    IsTrue (list_all test (reference_in value)) → IsTrue (list_all test (root_references (tops.with_local (roots.with_frames held frames) local value)))
closed_local_on test held local value [] all new = all
closed_local_on test held local value (Initialising class place ∷ below) all new = all
closed_local_on test held local value (OfMethod frame ∷ below) all new =
    let top = top_held test held (OfMethod frame) below all in
    closed_top test held (OfMethod frame) (OfMethod (record { method = frame.method; pc = frame.pc; slots = frame.slots; locals = slice_set frame.locals local value; stack = frame.stack })) below all
    (all_of test (references_in (slice_set frame.locals local value)) (references_in frame.stack)
    (all_with test reference_in frame.locals local value (front_of test (references_in frame.locals) (references_in frame.stack) top) new)
    (rest_of test (references_in frame.locals) (references_in frame.stack) top))

pub closed_local : (test : ℕ → Bool) (held : Roots) (local : ℕ) (value : Value) → IsTrue (list_all test (root_references held)) → IsTrue (list_all test (reference_in value)) →
    IsTrue (list_all test (root_references (tops.with_local held local value)))
closed_local test held local value all new = closed_local_on test held local value held.frames all new

pub closed_left : (test : ℕ → Bool) (held : Roots) → IsTrue (list_all test (root_references held)) → IsTrue (list_all test (root_references (tops.left held)))
closed_left test held all = closed_frames test held (drop 1 held.frames) all (all_dropped test frame_references held.frames 1 (frames_of test held all))

pub closed_entered_init : (test : ℕ → Bool) (held : Roots) (class : ℕ) → IsTrue (list_all test (root_references held)) → IsTrue (list_all test (root_references (tops.entered_init held class)))
closed_entered_init test held class all = closed_frames test held (Initialising class 0 ∷ held.frames) all (frames_of test held all)

-- the frame of a method that is entered
slots_held : (test : ℕ → Bool) (value : Value) → references_in (slots_of value) ≡ reference_in value
slots_held test (values.Int number) = refl
slots_held test (values.Long number) = refl
slots_held test (values.Ref zero) = refl
slots_held test (values.Ref (suc place)) = refl

all_slots_held : (test : ℕ → Bool) (arguments : List Value) → IsTrue (list_all test (references_in arguments)) → IsTrue (list_all test (references_in (flat_map slots_of arguments)))
all_slots_held test [] all = refl
all_slots_held test (value ∷ arguments) all =
    ap (list_all test) (flat_map-append reference_in (slots_of value) (flat_map slots_of arguments))
    ∙ all_of test (references_in (slots_of value)) (references_in (flat_map slots_of arguments))
    (ap (list_all test) (slots_held test value) ∙ front_of test (reference_in value) (references_in arguments) all)
    (all_slots_held test arguments (rest_of test (reference_in value) (references_in arguments) all))

blanks_held : (test : ℕ → Bool) (count : ℕ) → IsTrue (list_all test (references_in (replicate count (values.Int (pos 0)))))
blanks_held test zero = refl
blanks_held test (suc count) = blanks_held test count

taken_held : (test : ℕ → Bool) (count : ℕ) (held : List Value) → IsTrue (list_all test (references_in held)) → IsTrue (list_all test (references_in (take count held)))
taken_held test zero held all = refl
taken_held test (suc count) [] all = refl
taken_held test (suc count) (value ∷ held) all =
    all_of test (reference_in value) (references_in (take count held)) (front_of test (reference_in value) (references_in held) all)
    (taken_held test count held (rest_of test (reference_in value) (references_in held) all))

reversed_held : (test : ℕ → Bool) (held : List Value) → IsTrue (list_all test (references_in held)) → IsTrue (list_all test (references_in (reverse held)))
reversed_held test [] all = refl
reversed_held test (value ∷ held) all =
    ap (λ values. list_all test (references_in values)) (reverse-append (value ∷ []) held)
    ∙ ap (list_all test) (flat_map-append reference_in (reverse held) (value ∷ []))
    ∙ all_of test (references_in (reverse held)) (reference_in value ++ [])
    (reversed_held test held (rest_of test (reference_in value) (references_in held) all))
    (all_of test (reference_in value) [] (front_of test (reference_in value) (references_in held) all) refl)

stack_held_on : (test : ℕ → Bool) (held : Roots) (frames : List Frame) → IsTrue (list_all test (root_references (roots.with_frames held frames))) →
    IsTrue (list_all test (references_in (tops.top_stack (roots.with_frames held frames))))
stack_held_on test held [] all = refl
stack_held_on test held (Initialising class place ∷ below) all = refl
stack_held_on test held (OfMethod frame ∷ below) all = rest_of test (references_in frame.locals) (references_in frame.stack) (top_held test held (OfMethod frame) below all)

pub stack_held : (test : ℕ → Bool) (held : Roots) → IsTrue (list_all test (root_references held)) → IsTrue (list_all test (references_in (tops.top_stack held)))
stack_held test held all = stack_held_on test held held.frames all

pub closed_entered : (test : ℕ → Bool) (held : Roots) (method arguments locals stack : ℕ) → IsTrue (list_all test (root_references held)) →
    IsTrue (list_all test (root_references (tops.entered held method arguments locals stack)))
closed_entered test held method arguments locals stack all =
    let given : List Value = tops.arguments_of held arguments in
    let held_given = reversed_held test (take arguments (tops.top_stack held)) (taken_held test arguments (tops.top_stack held) (stack_held test held all)) in
    let below = (tops.without held arguments).frames in
    let blanks : List Value = replicate (locals - length (flat_map slots_of given)) (values.Int (pos 0)) in
    closed_frames test held (frame_of method locals stack given ∷ below) all
    (all_of test (references_in (locals_of locals given) ++ []) (flat_map frame_references below)
    (all_of test (references_in (locals_of locals given)) []
    (ap (list_all test) (flat_map-append reference_in (flat_map slots_of given) blanks)
    ∙ all_of test (references_in (flat_map slots_of given)) (references_in blanks) (all_slots_held test given held_given) (blanks_held test (locals - length (flat_map slots_of given)))) refl)
    (frames_of test (tops.without held arguments) (closed_without test held arguments all)))
