-- Cells by the serials of their objects.
use Rattle.std.proofs.Common.{◌≡◌, ◌∙◌, ap, sym, refl, subst, arith, ℕ, ◌-◌, ◌<◌, ◌≤◌, ◌^◌, Bool, true, false, ◌&&◌, List, [], ◌∷◌, ◌++◌, Option, Some, None, is_some, length, map, take, slice_get, slice_index_or, slice_set, pos, pred, zero, suc, IsTrue, if◌then◌else◌}
use Rattle.std.specs.Int.{int_wrap, w64}
use Rattle.std.specs.List.{Contains, flat_map, list_all}
use Rattle.std.proofs.lemmas.Bool.{false≢true}
use Rattle.std.proofs.lemmas.List.Elements.{Contains-append_right}
use Rattle.std.proofs.lemmas.List.Folds.{list_all-append}
use Rattle.std.proofs.lemmas.List.Sums.{AllPass-from_list_all}
use Rattle.std.proofs.lemmas.Option.{none-some, same_Some}
use Rattle.cb_plain.specs.declared.value.Value.{Value}
use Rattle.cb_plain.specs.declared.value.Value.TheVariants as values
use Rattle.cb_plain.specs.declared.want.Want.{Want}
use Rattle.cb_plain.specs.Reach.{root_references}
use Rattle.cb_plain.specs.State.{Frame, Initialising, Number, Object, OfMethod, Reference, Roots}
use Rattle.cb_plain.specs.Updates.{object_in}
use Rattle.cb_frames.specs.Entries.{entries}
use Rattle.cb_frames.proofs.Laws.{entries_are_roots}
use Rattle.cb_store_tests.specs.FourCells.{entry_of, lowered, object_of, with_word, word_of}
use Rattle.cb_store_tests.specs.declared.cell.Cell.{Cell}
use Rattle.cb_heap.specs.Closed.{Collects, IsClosed, references_in}
use Rattle.cb_heap.specs.Grants.{IsBounded}
use Rattle.cb_heap.specs.Kept.{content_at, is_held, is_kept, is_number, is_reference, keep, residents, with_content}
use Rattle.cb_heap.specs.Reading.{View, read_frame, read_roots, read_value, seen, serial_of}
use Rattle.cb_heap.proofs.Laws as laws

entry_if : (kept : Bool) (cell : Cell) → cell.kept ≡ kept → IsTrue (is_some (entry_of cell)) → entry_of cell ≡ Some (object_of cell)
entry_if true cell is there = rw is refl
entry_if false cell is there =
    absurd (false≢true (subst (λ kept. is_some (if kept then Some (object_of cell) else None) ≡ true) is there))

pub record IsAt (cells : List Cell) (count place : ℕ) (blank : Cell) : Type 0 where
  pub below : place < count
  pub within : place < length cells
  pub object : object_in (map entry_of (take count cells)) (suc place) ≡ Some (object_of (slice_index_or cells place blank))

cell_place : (cells : List Cell) (count place : ℕ) (blank : Cell) → IsTrue (is_kept (map entry_of (take count cells)) (suc place)) → IsAt cells count place blank
cell_place [] zero place blank there = absurd (false≢true there)
cell_place [] (suc count) place blank there = absurd (false≢true there)
cell_place (cell ∷ cells) zero place blank there = absurd (false≢true there)
cell_place (cell ∷ cells) (suc count) zero blank there = record { below = omega arith; within = omega arith; object = entry_if cell.kept cell refl there }
cell_place (cell ∷ cells) (suc count) (suc place) blank there =
    let behind = cell_place cells count place blank there in
    record { below = omega (arith, behind.below); within = omega (arith, behind.within); object = behind.object }

-- of a serial
pub record IsCell (cells : List Cell) (count at : ℕ) (blank : Cell) : Type 0 where
  pub some : 0 < at
  pub below : at - 1 < count
  pub within : at - 1 < length cells
  pub object : object_in (map entry_of (take count cells)) at ≡ Some (object_of (slice_index_or cells (at - 1) blank))

pub cell_at : (cells : List Cell) (count at : ℕ) (blank : Cell) → IsTrue (is_kept (map entry_of (take count cells)) at) → IsCell cells count at blank
cell_at cells count zero blank there = absurd (false≢true there)
cell_at cells count (suc place) blank there =
    let found = cell_place cells count place blank there in
    let before : place ≡ suc place - 1 = omega arith in
    record {
      some = omega arith;
      below = subst (λ each. each < count) before found.below;
      within = subst (λ each. each < length cells) before found.within;
      object = subst (λ each. object_in (map entry_of (take count cells)) (suc place) ≡ Some (object_of (slice_index_or cells each blank))) before found.object;
    }

-- ---- whether a reference is held

entry_kept : (kept : Bool) (object : Object) → kept ≡ is_some (if kept then Some object else None)
entry_kept true object = refl
entry_kept false object = refl

kept_place : (cells : List Cell) (count place : ℕ) (blank : Cell) → place < count → place < length cells →
    (slice_index_or cells place blank).kept ≡ is_kept (map entry_of (take count cells)) (suc place)
kept_place [] count place blank below within = absurd (omega (arith, within))
kept_place (cell ∷ cells) zero place blank below within = absurd (omega (arith, below))
kept_place (cell ∷ cells) (suc count) zero blank below within = entry_kept cell.kept (object_of cell)
kept_place (cell ∷ cells) (suc count) (suc place) blank below within = kept_place cells count place blank (omega (arith, below)) (omega (arith, within))

pub held_within : (cells : List Cell) (count at : ℕ) (blank : Cell) → 0 < at → at ≤ count → count ≤ length cells →
    (slice_index_or cells (at - 1) blank).kept ≡ is_held (map entry_of (take count cells)) at
held_within cells count zero blank some below within = absurd (omega (arith, some))
held_within cells count (suc place) blank some below within =
    let before : place ≡ suc place - 1 = omega arith in
    subst (λ each. (slice_index_or cells each blank).kept ≡ is_held (map entry_of (take count cells)) (suc place)) before
    (kept_place cells count place blank (omega (arith, below)) (omega (arith, below, within)))

none_beyond : (cells : List Cell) (count place : ℕ) → count ≤ place → is_kept (map entry_of (take count cells)) (suc place) ≡ false
none_beyond [] zero place beyond = refl
none_beyond [] (suc count) place beyond = refl
none_beyond (cell ∷ cells) zero place beyond = refl
none_beyond (cell ∷ cells) (suc count) zero beyond = absurd (omega (arith, beyond))
none_beyond (cell ∷ cells) (suc count) (suc place) beyond = none_beyond cells count place (omega (arith, beyond))

pub held_beyond : (cells : List Cell) (count at : ℕ) → count < at → false ≡ is_held (map entry_of (take count cells)) at
held_beyond cells count zero beyond = absurd (omega (arith, beyond))
held_beyond cells count (suc place) beyond = sym (none_beyond cells count place (omega (arith, beyond)))

-- ---- whether all references are

both : (a b : Bool) → a ≡ true → b ≡ true → (a && b) ≡ true
both a b first second = rw (first, second) refl

first_part : (a b : Bool) → (a && b) ≡ true → a ≡ true
first_part true b is = refl
first_part false b is = is

second_part : (a b : Bool) → (a && b) ≡ true → b ≡ true
second_part true b is = is
second_part false b is = absurd (false≢true is)

all_of : {X : Type 0} (test : X → Bool) (one other : List X) → IsTrue (list_all test one) → IsTrue (list_all test other) → IsTrue (list_all test (one ++ other))
all_of test one other first second = list_all-append test one other ∙ both (list_all test one) (list_all test other) first second

pub all_more : {X : Type 0} (test : X → Bool) (items : List X) (i : ℕ) (item : X) → slice_get items i ≡ Some item →
    IsTrue (list_all test (take i items)) → IsTrue (test item) → IsTrue (list_all test (take (suc i) items))
all_more test [] i item is all new = absurd (none-some item is)
all_more test (first ∷ items) zero item is all new = both (test first) true (subst (λ each. IsTrue (test each)) (sym (same_Some first item is)) new) refl
all_more test (first ∷ items) (suc i) item is all new =
    both (test first) (list_all test (take (suc i) items)) (first_part (test first) (list_all test (take i items)) all)
    (all_more test items i item is (second_part (test first) (list_all test (take i items)) all) new)

pub parts_more : {X Y : Type 0} (test : Y → Bool) (part : X → List Y) (items : List X) (i : ℕ) (item : X) → slice_get items i ≡ Some item →
    IsTrue (list_all test (flat_map part (take i items))) → IsTrue (list_all test (part item)) → IsTrue (list_all test (flat_map part (take (suc i) items)))
parts_more test part [] i item is all new = absurd (none-some item is)
parts_more test part (first ∷ items) zero item is all new =
    all_of test (part first) [] (subst (λ each. IsTrue (list_all test (part each))) (sym (same_Some first item is)) new) refl
parts_more test part (first ∷ items) (suc i) item is all new =
    let split = sym (list_all-append test (part first) (flat_map part (take i items))) ∙ all in
    all_of test (part first) (flat_map part (take (suc i) items)) (first_part (list_all test (part first)) (list_all test (flat_map part (take i items))) split)
    (parts_more test part items i item is (second_part (list_all test (part first)) (list_all test (flat_map part (take i items))) split) new)

pub entry_place : (cells : List Cell) (count place : ℕ) (blank : Cell) → place < count → place < length cells →
    slice_get (map entry_of (take count cells)) place ≡ Some (entry_of (slice_index_or cells place blank))
entry_place [] count place blank below within = absurd (omega (arith, within))
entry_place (cell ∷ cells) zero place blank below within = absurd (omega (arith, below))
entry_place (cell ∷ cells) (suc count) zero blank below within = refl
entry_place (cell ∷ cells) (suc count) (suc place) blank below within = entry_place cells count place blank (omega (arith, below)) (omega (arith, within))

-- ---- a place is a serial

pub serial_same : (place : ℕ) → serial_of pred place ≡ place
serial_same zero = refl
serial_same (suc place) = refl

map_same : {X : Type 0} (f : X → X) (items : List X) → ((item : X) → f item ≡ item) → map f items ≡ items
map_same f [] same = refl
map_same f (item ∷ items) same = rw (same item, map_same f items same) refl

value_same : (value : Value) → read_value pred value ≡ value
value_same (values.Int number) = refl
value_same (values.Long number) = refl
value_same (values.Ref place) = ap values.Ref (serial_same place)

frame_same : (frame : Frame) → read_frame pred frame ≡ frame
frame_same (OfMethod frame) = rw (map_same (read_value pred) frame.locals value_same, map_same (read_value pred) frame.stack value_same) refl
frame_same (Initialising class place) = refl

pub roots_same : (held : Roots) → read_roots pred held ≡ held
roots_same held =
    rw (
      map_same (read_frame pred) held.frames frame_same,
      map_same (read_value pred) held.statics value_same,
      serial_same held.pending,
      serial_same held.argument,
      map_same (serial_of pred) held.tables.constants serial_same,
      map_same (serial_of pred) held.tables.classes serial_same,
      map_same (serial_of pred) held.tables.integers serial_same,
      map_same (serial_of pred) held.tables.longs serial_same,
      map_same (serial_of pred) held.tables.characters serial_same,
      map_same (serial_of pred) held.tables.booleans serial_same,
    ) refl

all_among : (test : ℕ → Bool) (items all : List ℕ) → ((item : ℕ) → Contains items item → IsTrue (test item)) → IsTrue (list_all test items)
all_among test [] all each = refl
all_among test (item ∷ items) all each =
    both (test item) (list_all test items) (each item (zero, omega arith, refl))
    (all_among test items all (λ other there. each other (Contains-append_right (item ∷ []) items other there)))

among : (test : ℕ → Bool) (items : List ℕ) (item : ℕ) → IsTrue (list_all test items) → Contains items item → IsTrue (test item)
among test items item all there = subst (λ each. IsTrue (test each)) there.2 (AllPass-from_list_all test items all there.0 item there.1)

pub entries_closed : (objects : List (Option Object)) (held : Roots) → IsTrue (list_all (is_held objects) (entries held)) →
    IsTrue (list_all (is_held objects) (references_in objects)) → IsClosed (seen pred objects held)
entries_closed objects held named words = record {
  roots = subst (λ read. IsTrue (list_all (is_held objects) (root_references read))) (sym (roots_same held))
      (all_among (is_held objects) (root_references held) (entries held)
      (λ serial there. among (is_held objects) (entries held) serial named ((entries_are_roots held serial).0 there).1));
  objects = words;
}

-- ---- a candidate

abbrev pub all_lowered : List Cell → List Bool → List Cell
all_lowered [] stays = []
all_lowered (cell ∷ cells) [] = []
all_lowered (cell ∷ cells) (stay ∷ stays) = lowered stay cell ∷ all_lowered cells stays

keep_entry : (kept stays : Bool) (object : Object) (rest olds : List (Option Object)) (marks : List Bool) → rest ≡ keep marks olds →
    (if kept && stays then Some object else None) ∷ rest ≡ keep (stays ∷ marks) ((if kept then Some object else None) ∷ olds)
keep_entry true true object rest olds marks same = ap (λ rest. Some object ∷ rest) same
keep_entry true false object rest olds marks same = ap (λ rest. None ∷ rest) same
keep_entry false true object rest olds marks same = ap (λ rest. None ∷ rest) same
keep_entry false false object rest olds marks same = ap (λ rest. None ∷ rest) same

keeps_lowered : (cells : List Cell) (stays : List Bool) (count : ℕ) → map entry_of (take count (all_lowered cells stays)) ≡ keep stays (map entry_of (take count cells))
keeps_lowered [] [] zero = refl
keeps_lowered [] (stay ∷ stays) zero = refl
keeps_lowered [] [] (suc count) = refl
keeps_lowered [] (stay ∷ stays) (suc count) = refl
keeps_lowered (cell ∷ cells) [] zero = refl
keeps_lowered (cell ∷ cells) [] (suc count) = refl
keeps_lowered (cell ∷ cells) (stay ∷ stays) zero = refl
keeps_lowered (cell ∷ cells) (stay ∷ stays) (suc count) =
    keep_entry cell.kept stay (object_of cell) (map entry_of (take count (all_lowered cells stays))) (map entry_of (take count cells)) stays (keeps_lowered cells stays count)

abbrev pub first_four : {X : Type 0} → List X → X → List X
first_four items x = slice_index_or items 0 x ∷ slice_index_or items 1 x ∷ slice_index_or items 2 x ∷ slice_index_or items 3 x ∷ []

four : {X : Type 0} (items : List X) (x : X) → length items ≡ 4 → items ≡ first_four items x
four [] x is = absurd (omega (arith, is))
four (a ∷ []) x is = absurd (omega (arith, is))
four (a ∷ b ∷ []) x is = absurd (omega (arith, is))
four (a ∷ b ∷ c ∷ []) x is = absurd (omega (arith, is))
four (a ∷ b ∷ c ∷ d ∷ []) x is = refl
four (a ∷ b ∷ c ∷ d ∷ e ∷ items) x is = absurd (omega (arith, is))

pub keeps_four : (cells : List Cell) (stays : List Bool) (count : ℕ) (blank : Cell) (stay : Bool) (now : List Cell) → length cells ≡ 4 → length stays ≡ 4 →
    now ≡ all_lowered (first_four cells blank) (first_four stays stay) → map entry_of (take count now) ≡ keep stays (map entry_of (take count cells))
keeps_four cells stays count blank stay now is marks same =
    subst (λ olds. map entry_of (take count now) ≡ keep stays (map entry_of (take count olds))) (sym (four cells blank is))
    (subst (λ each. map entry_of (take count now) ≡ keep each (map entry_of (take count (first_four cells blank)))) (sym (four stays stay marks))
    (ap (λ news. map entry_of (take count news)) same ∙ keeps_lowered (first_four cells blank) (first_four stays stay) count))

-- ---- words

pub there_kept : (objects : List (Option Object)) (at i : ℕ) → IsTrue (is_some (content_at objects at i)) → IsTrue (is_kept objects at)
there_kept objects zero i there = absurd (false≢true there)
there_kept [] (suc place) i there = absurd (false≢true there)
there_kept (None ∷ objects) (suc zero) i there = absurd (false≢true there)
there_kept (Some object ∷ objects) (suc zero) i there = refl
there_kept (entry ∷ objects) (suc (suc place)) i there = there_kept objects (suc place) i there

put_entry : (kept linked : Bool) (site kind old word i : ℕ) (rest : List (Option Object)) →
    IsTrue (is_some (content_at ((if kept then Some (record { site = site; kind = kind; contents = word_of linked old ∷ [] }) else None) ∷ rest) (suc zero) i)) →
    (if kept then Some (record { site = site; kind = kind; contents = word_of linked word ∷ [] }) else None) ∷ rest
    ≡ with_content ((if kept then Some (record { site = site; kind = kind; contents = word_of linked old ∷ [] }) else None) ∷ rest) (suc zero) i (word_of linked word)
put_entry false linked site kind old word i rest there = absurd (false≢true there)
put_entry true linked site kind old word zero rest there = refl
put_entry true linked site kind old word (suc i) rest there = absurd (false≢true there)

put_place : (cells : List Cell) (count place i word : ℕ) (blank : Cell) → IsTrue (is_some (content_at (map entry_of (take count cells)) (suc place) i)) →
    map entry_of (take count (slice_set cells place (with_word (slice_index_or cells place blank) word)))
    ≡ with_content (map entry_of (take count cells)) (suc place) i (word_of (slice_index_or cells place blank).linked word)
put_place [] zero place i word blank there = absurd (false≢true there)
put_place [] (suc count) place i word blank there = absurd (false≢true there)
put_place (cell ∷ cells) zero place i word blank there = absurd (false≢true there)
put_place (cell ∷ cells) (suc count) zero i word blank there =
    put_entry cell.kept cell.linked cell.site (object_of cell).kind cell.word word i (map entry_of (take count cells)) there
put_place (cell ∷ cells) (suc count) (suc place) i word blank there = ap (λ rest. entry_of cell ∷ rest) (put_place cells count place i word blank there)

pub put_cell : (cells : List Cell) (count at i word : ℕ) (blank : Cell) → IsTrue (is_some (content_at (map entry_of (take count cells)) at i)) →
    map entry_of (take count (slice_set cells (at - 1) (with_word (slice_index_or cells (at - 1) blank) word)))
    ≡ with_content (map entry_of (take count cells)) at i (word_of (slice_index_or cells (at - 1) blank).linked word)
put_cell cells count zero i word blank there = absurd (false≢true there)
put_cell cells count (suc place) i word blank there =
    let before : place ≡ suc place - 1 = omega arith in
    subst (λ each. map entry_of (take count (slice_set cells each (with_word (slice_index_or cells each blank) word)))
    ≡ with_content (map entry_of (take count cells)) (suc place) i (word_of (slice_index_or cells each blank).linked word)) before
    (put_place cells count place i word blank there)

-- ---- what is granted

pub sole : (wants : List Want) (want : Want) → length wants ≡ 1 → slice_get wants 0 ≡ Some want → want ∷ [] ≡ wants
sole [] want few is = absurd (omega (arith, few))
sole (first ∷ []) want few is = ap (λ each. each ∷ []) (sym (same_Some first want is))
sole (first ∷ second ∷ wants) want few is = absurd (omega (arith, few))

each_bounded : (want : Want) → want.words < 20 → (each : Want) (place : ℕ) → slice_get (want ∷ []) place ≡ Some each → each.words < 2 ^ 40
each_bounded want few each zero is = let same : want.words ≡ each.words = ap (λ each. each.words) (same_Some want each is) in omega (arith, few, same)
each_bounded want few each (suc place) is = absurd (none-some each is)

pub sole_bounded : (want : Want) (count : ℕ) → want.words < 20 → IsBounded true count (want ∷ [])
sole_bounded want count few = record {
  each = each_bounded want few;
  words = λ is. omega (arith, few);
  serials = λ is. absurd (false≢true (sym is));
}

-- ---- what a word holds

pub number_word : (linked : Bool) (old word i : ℕ) → IsTrue (is_number (slice_get (word_of linked old ∷ []) i)) → word_of linked word ≡ Number (int_wrap w64 (pos word))
number_word true old word zero is = absurd (false≢true is)
number_word false old word zero is = refl
number_word linked old word (suc i) is = absurd (false≢true is)

pub reference_word : (linked : Bool) (old word i : ℕ) → IsTrue (is_reference (slice_get (word_of linked old ∷ []) i)) → word_of linked word ≡ Reference word
reference_word true old word zero is = refl
reference_word false old word zero is = absurd (false≢true is)
reference_word linked old word (suc i) is = absurd (false≢true is)

pub number_put : (cells : List Cell) (count at i word : ℕ) (blank : Cell) → IsTrue (is_some (content_at (map entry_of (take count cells)) at i)) →
    IsTrue (is_number (content_at (map entry_of (take count cells)) at i)) →
    map entry_of (take count (slice_set cells (at - 1) (with_word (slice_index_or cells (at - 1) blank) word)))
    ≡ with_content (map entry_of (take count cells)) at i (Number (int_wrap w64 (pos word)))
number_put cells count at i word blank there is =
    let found = cell_at cells count at blank (there_kept (map entry_of (take count cells)) at i there) in
    let cell : Cell = slice_index_or cells (at - 1) blank in
    put_cell cells count at i word blank there
    ∙ ap (with_content (map entry_of (take count cells)) at i)
    (number_word cell.linked cell.word word i (subst (λ content. IsTrue (is_number content)) (laws.content_of_object (map entry_of (take count cells)) at i (object_of cell) found.object) is))

pub reference_put : (cells : List Cell) (count at i word : ℕ) (blank : Cell) → IsTrue (is_some (content_at (map entry_of (take count cells)) at i)) →
    IsTrue (is_reference (content_at (map entry_of (take count cells)) at i)) →
    map entry_of (take count (slice_set cells (at - 1) (with_word (slice_index_or cells (at - 1) blank) word)))
    ≡ with_content (map entry_of (take count cells)) at i (Reference word)
reference_put cells count at i word blank there is =
    let found = cell_at cells count at blank (there_kept (map entry_of (take count cells)) at i there) in
    let cell : Cell = slice_index_or cells (at - 1) blank in
    put_cell cells count at i word blank there
    ∙ ap (with_content (map entry_of (take count cells)) at i)
    (reference_word cell.linked cell.word word i (subst (λ content. IsTrue (is_reference content)) (laws.content_of_object (map entry_of (take count cells)) at i (object_of cell) found.object) is))

-- ---- where nothing is emptied

keep_all : (objects : List (Option Object)) → objects ≡ keep (residents objects) objects
keep_all [] = refl
keep_all (None ∷ objects) = ap (λ rest. None ∷ rest) (keep_all objects)
keep_all (Some object ∷ objects) = ap (λ rest. Some object ∷ rest) (keep_all objects)

pub same_collects : (view : View) → IsClosed view → Collects view view
same_collects view closed = record { roots = refl; objects = keep_all view.objects; count = refl; closed = closed }
