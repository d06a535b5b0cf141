-- When an object is placed, all that is held reads as it did, and what is placed, put and left is there.
use Rattle.std.proofs.Common.{◌≡◌, ◌∙◌, ap, sym, refl, subst, add-one, arith, ℕ, ◌+◌, ◌<◌, Bool, true, false, List, [], ◌∷◌, ◌++◌, Option, Some, None, length, map, slice_get, slice_set, zero, suc, IsTrue}
use Rattle.std.specs.List.{flat_map, list_all}
use Rattle.std.proofs.lemmas.Bool.{false≢true}
use Rattle.std.proofs.lemmas.Option.{none-some, same_Some}
use Rattle.cb_plain.specs.declared.value.Value.{Value}
use Rattle.cb_plain.specs.declared.value.Value.TheVariants as values
use Rattle.cb_plain.specs.Reach.{frame_references, references_in, root_references, table_references, unless_null}
use Rattle.cb_plain.specs.State.{Content, Frame, Initialising, Object, OfMethod, Reference, Roots, Tables}
use Rattle.cb_plain.specs.Updates.{object_in}
use Rattle.cb_heap.specs.Closed.{Collects, IsClosed, reference_in_word, references_in as references_in_objects, references_in_entry}
use Rattle.cb_heap.specs.Kept.{content_at, is_held, is_kept, keep, residents, with_content}
use Rattle.cb_heap.specs.Reading.{View, read_frame, read_roots, read_tables, read_value, serial_of}
use Rattle.cb_heap.specs.Store.{ReadsAsBefore, may_point}
use Rattle.cb_heap.proofs.ClosedLaws.{front_of, rest_of, frames_of, statics_of, tables_of, pending_of, argument_of, constants_of, classes_of, integers_of, longs_of, characters_of, booleans_of}
use Rattle.cb_heap.proofs.ReachedLaws.{held_from, all_in, entry_from}

-- when an object is placed, all that is held reads as it did

reads_again : (objects : List (Option Object)) (before after : ℕ → ℕ) → ReadsAsBefore objects before after → (place : ℕ) →
    IsTrue (list_all (is_held objects) (unless_null (serial_of before place))) → serial_of after place ≡ serial_of before place
reads_again objects before after again place all = again place (held_from objects (serial_of before place) all)

values_again : (objects : List (Option Object)) (before after : ℕ → ℕ) → ReadsAsBefore objects before after → (held : List Value) →
    IsTrue (list_all (is_held objects) (references_in (map (read_value before) held))) → map (read_value after) held ≡ map (read_value before) held
values_again objects before after again [] all = refl
values_again objects before after again (values.Int number ∷ held) all = ap (λ rest. values.Int number ∷ rest) (values_again objects before after again held all)
values_again objects before after again (values.Long number ∷ held) all = ap (λ rest. values.Long number ∷ rest) (values_again objects before after again held all)
values_again objects before after again (values.Ref place ∷ held) all =
    rw (
      reads_again objects before after again place (front_of (is_held objects) (unless_null (serial_of before place)) (references_in (map (read_value before) held)) all),
      values_again objects before after again held (rest_of (is_held objects) (unless_null (serial_of before place)) (references_in (map (read_value before) held)) all),
    ) refl

frames_again : (objects : List (Option Object)) (before after : ℕ → ℕ) → ReadsAsBefore objects before after → (frames : List Frame) →
    IsTrue (list_all (is_held objects) (flat_map frame_references (map (read_frame before) frames))) → map (read_frame after) frames ≡ map (read_frame before) frames
frames_again objects before after again [] all = refl
frames_again objects before after again (Initialising class place ∷ frames) all = ap (λ rest. Initialising class place ∷ rest) (frames_again objects before after again frames all)
frames_again objects before after again (OfMethod frame ∷ frames) all =
    let top = front_of (is_held objects) (references_in (map (read_value before) frame.locals) ++ references_in (map (read_value before) frame.stack)) (flat_map frame_references (map (read_frame before) frames)) all in
    rw (
      values_again objects before after again frame.locals (front_of (is_held objects) (references_in (map (read_value before) frame.locals)) (references_in (map (read_value before) frame.stack)) top),
      values_again objects before after again frame.stack (rest_of (is_held objects) (references_in (map (read_value before) frame.locals)) (references_in (map (read_value before) frame.stack)) top),
      frames_again objects before after again frames (rest_of (is_held objects) (references_in (map (read_value before) frame.locals) ++ references_in (map (read_value before) frame.stack)) (flat_map frame_references (map (read_frame before) frames)) all),
    ) refl

entries_again : (objects : List (Option Object)) (before after : ℕ → ℕ) → ReadsAsBefore objects before after → (table : List ℕ) →
    IsTrue (list_all (is_held objects) (flat_map unless_null (map (serial_of before) table))) → map (serial_of after) table ≡ map (serial_of before) table
entries_again objects before after again [] all = refl
entries_again objects before after again (place ∷ table) all =
    rw (
      reads_again objects before after again place (front_of (is_held objects) (unless_null (serial_of before place)) (flat_map unless_null (map (serial_of before) table)) all),
      entries_again objects before after again table (rest_of (is_held objects) (unless_null (serial_of before place)) (flat_map unless_null (map (serial_of before) table)) all),
    ) refl

tables_again : (objects : List (Option Object)) (before after : ℕ → ℕ) → ReadsAsBefore objects before after → (held : Tables) →
    IsTrue (list_all (is_held objects) (table_references (read_tables before held))) → read_tables after held ≡ read_tables before held
tables_again objects before after again held all =
    let now : Tables = read_tables before held in
    rw (
      entries_again objects before after again held.constants (constants_of (is_held objects) now all),
      entries_again objects before after again held.classes (classes_of (is_held objects) now all),
      entries_again objects before after again held.integers (integers_of (is_held objects) now all),
      entries_again objects before after again held.longs (longs_of (is_held objects) now all),
      entries_again objects before after again held.characters (characters_of (is_held objects) now all),
      entries_again objects before after again held.booleans (booleans_of (is_held objects) now all),
    ) refl

pub roots_again : (objects : List (Option Object)) (before after : ℕ → ℕ) → ReadsAsBefore objects before after → (held : Roots) →
    IsTrue (list_all (is_held objects) (root_references (read_roots before held))) → read_roots after held ≡ read_roots before held
roots_again objects before after again held all =
    let now : Roots = read_roots before held in
    rw (
      frames_again objects before after again held.frames (frames_of (is_held objects) now all),
      values_again objects before after again held.statics (statics_of (is_held objects) now all),
      tables_again objects before after again held.tables (tables_of (is_held objects) now all),
      reads_again objects before after again held.pending (pending_of (is_held objects) now all),
      reads_again objects before after again held.argument (argument_of (is_held objects) now all),
    ) refl

-- what is placed, put and left is there

placed_last : (objects : List (Option Object)) (object : Object) → object_in (objects ++ Some object ∷ []) (suc (length objects)) ≡ Some object
placed_last [] object = refl
placed_last (entry ∷ objects) object = placed_last objects object

-- a new object has the next serial
pub placed_there : (objects : List (Option Object)) (object : Object) → object_in (objects ++ Some object ∷ []) (length objects + 1) ≡ Some object
placed_there objects object = ap (object_in (objects ++ Some object ∷ [])) (add-one (length objects)) ∙ placed_last objects object

before_at : (objects : List (Option Object)) (object : Object) (place : ℕ) (each : Object) → object_in objects (suc place) ≡ Some each →
    object_in (objects ++ Some object ∷ []) (suc place) ≡ Some each
before_at [] object place each is = absurd (none-some each is)
before_at (entry ∷ objects) object zero each is = is
before_at (entry ∷ objects) object (suc place) each is = before_at objects object place each is

pub there_before : (objects : List (Option Object)) (object : Object) (serial : ℕ) (each : Object) → object_in objects serial ≡ Some each →
    object_in (objects ++ Some object ∷ []) serial ≡ Some each
there_before objects object zero each is = is
there_before objects object (suc place) each is = before_at objects object place each is

get_set : {X : Type 0} (items : List X) (place : ℕ) (item : X) → place < length items → slice_get (slice_set items place item) place ≡ Some item
get_set [] place item below = absurd (omega (arith, below))
get_set (first ∷ items) zero item below = refl
get_set (first ∷ items) (suc place) item below = get_set items place item (omega (arith, below))

put_at : (objects : List (Option Object)) (place word : ℕ) (content : Content) (each : Object) → object_in objects (suc place) ≡ Some each → word < length each.contents →
    content_at (with_content objects (suc place) word content) (suc place) word ≡ Some content
put_at [] place word content each is below = absurd (none-some each is)
put_at (None ∷ objects) zero word content each is below = absurd (none-some each is)
put_at (Some object ∷ objects) zero word content each is below =
    get_set object.contents word content (subst (λ held. word < length held.contents) (sym (same_Some object each is)) below)
put_at (entry ∷ objects) (suc place) word content each is below = put_at objects place word content each is below

-- a word holds what was put there
pub put_there : (objects : List (Option Object)) (serial word : ℕ) (content : Content) (each : Object) → object_in objects serial ≡ Some each → word < length each.contents →
    content_at (with_content objects serial word content) serial word ≡ Some content
put_there objects zero word content each is below = absurd (none-some each is)
put_there objects (suc place) word content each is below = put_at objects place word content each is below

-- what a word of an object holds
pub content_of_object : (objects : List (Option Object)) (serial word : ℕ) (each : Object) → object_in objects serial ≡ Some each → content_at objects serial word ≡ slice_get each.contents word
content_of_object objects serial word each is = rw is refl

-- an object may point to another where their sites allow it
pub may_point_there : (allows : ℕ → ℕ → Bool) (objects : List (Option Object)) (one other : ℕ) (first second : Object) → object_in objects one ≡ Some first →
    object_in objects other ≡ Some second → allows first.site second.site ≡ true → IsTrue (may_point allows objects one other)
may_point_there allows objects one zero first second is also allowed = refl
may_point_there allows objects one (suc place) first second is also allowed = rw (is, also) allowed

-- what a collection leaves is as it was
keeps_same : (kept : List Bool) (objects : List (Option Object)) (place : ℕ) → IsTrue (is_kept (keep kept objects) (suc place)) →
    object_in (keep kept objects) (suc place) ≡ object_in objects (suc place)
keeps_same [] objects place there = absurd (false≢true there)
keeps_same (stays ∷ kept) [] place there = refl
keeps_same (true ∷ kept) (entry ∷ objects) zero there = refl
keeps_same (false ∷ kept) (entry ∷ objects) zero there = absurd (false≢true there)
keeps_same (true ∷ kept) (entry ∷ objects) (suc place) there = keeps_same kept objects place there
keeps_same (false ∷ kept) (entry ∷ objects) (suc place) there = keeps_same kept objects place there

pub left_same : (old new : View) → Collects old new → (serial : ℕ) → IsTrue (is_kept new.objects serial) → object_in new.objects serial ≡ object_in old.objects serial
left_same old new collects zero kept = refl
left_same old new collects (suc place) kept =
    ap (λ objects. object_in objects (suc place)) collects.objects
    ∙ keeps_same (residents new.objects) old.objects place (subst (λ objects. IsTrue (is_kept objects (suc place))) collects.objects kept)

pub content_left : (old new : View) → Collects old new → (serial word : ℕ) → IsTrue (is_kept new.objects serial) → content_at new.objects serial word ≡ content_at old.objects serial word
content_left old new collects serial word kept = rw (left_same old new collects serial kept) refl

-- what a word refers to is held where all is closed
none_at : (objects : List (Option Object)) (serial word : ℕ) → object_in objects serial ≡ None → content_at objects serial word ≡ None
none_at objects serial word same = rw same refl

content_in_object : (objects : List (Option Object)) (serial word : ℕ) (content : Content) → content_at objects serial word ≡ Some content →
    (each : Object) × (object_in objects serial ≡ Some each) × (slice_get each.contents word ≡ Some content)
content_in_object objects serial word content is = by_object (object_in objects serial) refl is where
  by_object : (found : Option Object) → object_in objects serial ≡ found → content_at objects serial word ≡ Some content →
      (each : Object) × (object_in objects serial ≡ Some each) × (slice_get each.contents word ≡ Some content)
  by_object None same is = absurd (none-some content (subst (λ held. held ≡ Some content) (none_at objects serial word same) is))
  by_object (Some each) same is = (each, same, subst (λ held. held ≡ Some content) (content_of_object objects serial word each same) is)

object_referents : (test : ℕ → Bool) (objects : List (Option Object)) (serial : ℕ) (each : Object) → object_in objects serial ≡ Some each →
    IsTrue (list_all test (references_in_objects objects)) → IsTrue (list_all test (flat_map reference_in_word each.contents))
object_referents test objects zero each is all = absurd (none-some each is)
object_referents test objects (suc place) each is all =
    all_in test references_in_entry objects place (Some each) (entry_from (slice_get objects place) each is) all

pub reference_held : (view : View) → IsClosed view → (serial word other : ℕ) → content_at view.objects serial word ≡ Some (Reference other) → IsTrue (is_held view.objects other)
reference_held view closed serial word other is =
    let found = content_in_object view.objects serial word (Reference other) is in
    held_from view.objects other
    (all_in (is_held view.objects) reference_in_word found.0.contents word (Reference other) found.2
    (object_referents (is_held view.objects) view.objects serial found.0 found.1 closed.objects))
