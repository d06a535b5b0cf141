-- What the tests of the store that never frees place.
use Rattle.std.proofs.Common.{◌≡◌, ◌∙◌, ap, sym, refl, subst, arith, ℕ, pred, zero, suc, pos, ◌+◌, ◌-◌, ◌<◌, ◌≤◌, ◌⊎◌, inl, inr, eq-or-lt_of_le, le_of_suc-le-suc, ◌&&◌, Bool, true, false, List, [], ◌∷◌, ◌++◌, Some, Option, IsTrue, length, map, set, slice_get, length-append, replicate}
use Rattle.std.specs.Int.{int_wrap, w64}
use Rattle.std.specs.List.{list_all}
use Rattle.std.proofs.lemmas.Bool.{false≢true}
use Rattle.std.proofs.lemmas.List.{length-map, length-replicate, length-set}
use Rattle.cb_plain.specs.declared.shape.Shape.{Shape}
use Rattle.cb_plain.specs.State.{Content, Number, Object, Reference}
use Rattle.cb_plain.specs.Updates.{object_in, with_contents_in}
use Rattle.cb_heap.specs.Kept.{content_at, is_held, is_kept, is_reference, with_content}
use Rattle.cb_heap.specs.Shaped.{new_object}
use Rattle.cb_heap.specs.Reading.{serial_of}
use Rattle.cb_heap.specs.Store.{may_point}
use Rattle.cb_mapheap.proofs.Laws.{serial_is}
use Rattle.cb_store_tests.specs.Cells.{HasArray, array, cell, cells, two_kinds}

-- the last object of a list
last_there : (objects : List (Option Object)) (object : Object) (serial : ℕ) → serial ≡ suc (length objects) → object_in (objects ++ Some object ∷ []) serial ≡ Some object
last_there objects object serial is = ap (object_in (objects ++ Some object ∷ [])) is ∙ there objects object where
  there : (objects : List (Option Object)) (object : Object) → object_in (objects ++ Some object ∷ []) (suc (length objects)) ≡ Some object
  there [] object = refl
  there (first ∷ objects) object = there objects object

pub last_content : (objects : List (Option Object)) (object : Object) (serial i : ℕ) → serial ≡ suc (length objects) → content_at (objects ++ Some object ∷ []) serial i ≡ slice_get object.contents i
last_content objects object serial i is = rw (last_there objects object serial is) refl

changed_last : (objects : List (Option Object)) (object : Object) (contents : List Content) →
    with_contents_in (objects ++ Some object ∷ []) (suc (length objects)) contents ≡ objects ++ Some (record { site = object.site; kind = object.kind; contents = contents }) ∷ []
changed_last [] object contents = refl
changed_last (first ∷ objects) object contents = ap (λ rest. first ∷ rest) (changed_last objects object contents)

pub last_with : (objects : List (Option Object)) (object : Object) (serial i : ℕ) (content : Content) → serial ≡ suc (length objects) →
    with_content (objects ++ Some object ∷ []) serial i content ≡ objects ++ Some (record { site = object.site; kind = object.kind; contents = set object.contents i content }) ∷ []
last_with objects object serial i content is =
    rw (last_there objects object serial is) (ap (λ place. with_contents_in (objects ++ Some object ∷ []) place (set object.contents i content)) is ∙ changed_last objects object (set object.contents i content))

-- what is read of it and written into it, in objects that are known
pub reads_last : (test : Option Content → Bool) (objects front : List (Option Object)) (object : Object) (serial i : ℕ) → objects ≡ front ++ Some object ∷ [] → serial ≡ suc (length front) →
    IsTrue (test (slice_get object.contents i)) → IsTrue (test (content_at objects serial i))
reads_last test objects front object serial i same is passes =
    subst (λ objects. IsTrue (test (content_at objects serial i))) (sym same) (subst (λ content. IsTrue (test content)) (sym (last_content front object serial i is)) passes)

pub writes_last : (objects now front : List (Option Object)) (object : Object) (serial i : ℕ) (content : Content) → now ≡ with_content objects serial i content → objects ≡ front ++ Some object ∷ [] →
    serial ≡ suc (length front) → now ≡ front ++ Some (record { site = object.site; kind = object.kind; contents = set object.contents i content }) ∷ []
writes_last objects now front object serial i content written same is =
    written ∙ ap (λ objects. with_content objects serial i content) same ∙ last_with front object serial i content is

pub one_longer : (objects : List Object) (front : List (Option Object)) (object : Object) → map Some objects ≡ front ++ Some object ∷ [] → length objects ≡ length front + 1
one_longer objects front object same = omega (arith, length-map objects Some, ap length same, length-append front (Some object ∷ []))

-- objects by their serials
is_there : (objects : List Object) (n : ℕ) → n < length objects → (object : Object) × (object_in (map Some objects) (suc n) ≡ Some object)
is_there [] n below = absurd (omega (arith, below))
is_there (object ∷ objects) zero below = (object, refl)
is_there (object ∷ objects) (suc n) below = is_there objects n (omega (arith, below))

pub held_within : (objects : List Object) (serial : ℕ) → serial ≤ length objects → IsTrue (is_held (map Some objects) serial)
held_within objects zero within = refl
held_within objects (suc n) within = rw (is_there objects n (omega (arith, within))).1 refl

pub may_within : (objects : List Object) (one other : ℕ) → 0 < one → one ≤ length objects → other ≤ length objects → IsTrue (may_point (λ one other. true) (map Some objects) one other)
may_within objects one zero low high within = refl
may_within objects zero (suc n) low high within = absurd (omega (arith, low))
may_within objects (suc m) (suc n) low high within = rw ((is_there objects m (omega (arith, high))).1, (is_there objects n (omega (arith, within))).1) refl

-- cells
pub cells_next : (count : ℕ) → cells (count + 1) ≡ cells count ++ Some (cell count) ∷ []
unfolding cells
cells_next count = let next : count + 1 ≡ suc count = omega arith in rw next refl

pub cells_count : (count : ℕ) → length (cells count) ≡ count
unfolding cells
cells_count zero = refl
cells_count (suc count) = omega (arith, length-append (cells count) (Some (cell count) ∷ []), cells_count count)

front_there : (objects : List (Option Object)) (entry : Option Object) (n : ℕ) → n < length objects → object_in (objects ++ entry ∷ []) (suc n) ≡ object_in objects (suc n)
front_there [] entry n below = absurd (omega (arith, below))
front_there (first ∷ objects) entry zero below = refl
front_there (first ∷ objects) entry (suc n) below = front_there objects entry n (omega (arith, below))

cell_by : (count n : ℕ) → (n ≡ count) ⊎ (n < count) → (n < count → object_in (cells count) (suc n) ≡ Some (cell n)) → object_in (cells count ++ Some (cell count) ∷ []) (suc n) ≡ Some (cell n)
cell_by count n (inl same) before = last_there (cells count) (cell count) (suc n) (omega (arith, same, cells_count count)) ∙ ap (λ k. Some (cell k)) (sym same)
cell_by count n (inr less) before = front_there (cells count) (Some (cell count)) n (omega (arith, less, cells_count count)) ∙ before less

cell_there : (count n : ℕ) → n < count → object_in (cells count) (suc n) ≡ Some (cell n)
unfolding cells
cell_there zero n below = absurd (omega (arith, below))
cell_there (suc count) n below = cell_by count n (eq-or-lt_of_le (le_of_suc-le-suc below)) (cell_there count n)

pub cell_content : (count serial i : ℕ) → 0 < serial → serial ≤ count → content_at (cells count) serial i ≡ slice_get (cell (serial - 1)).contents i
cell_content count zero i low high = absurd (omega (arith, low))
cell_content count (suc n) i low high = let back : suc n - 1 ≡ n = omega arith in rw (cell_there count n (omega (arith, high))) (ap (λ k. slice_get (cell k).contents i) (sym back))

-- a cell that is placed
abbrev pub blank_cell : Object
blank_cell = record { site = 7; kind = 0; contents = Reference 0 ∷ Number (pos 0) ∷ [] }

abbrev pub number_put : ℕ → Object
number_put number = record { site = 7; kind = 0; contents = Reference 0 ∷ Number (int_wrap w64 (pos number)) ∷ [] }

pub cell_placed : (all : List Shape) (before now : List (Option Object)) (number : ℕ) → all ≡ two_kinds → before ≡ cells number → now ≡ before ++ Some (new_object all 7 0 2) ∷ [] →
    now ≡ cells number ++ Some blank_cell ∷ []
cell_placed all before now number shapes same placed =
    placed ∙ ap (λ objects. objects ++ Some (new_object all 7 0 2) ∷ []) same ∙ ap (λ all. cells number ++ Some (new_object all 7 0 2) ∷ []) shapes

pub serial_placed : (before : List (Option Object)) (serial number : ℕ) → before ≡ cells number → serial ≡ length before + 1 → serial ≡ suc (length (cells number))
serial_placed before serial number same is = omega (arith, is, ap length same)

-- walking along them
pub walk_content : (objects : List (Option Object)) (count last i : ℕ) → objects ≡ cells count → 0 < last → last ≤ count → content_at objects (serial_of pred last) i ≡ slice_get (cell (last - 1)).contents i
walk_content objects count last i same low high =
    ap (λ objects. content_at objects (serial_of pred last) i) same ∙ ap (λ serial. content_at (cells count) serial i) (serial_is last) ∙ cell_content count last i low high

reference_inner : (one other : ℕ) → ◌≡◌ {A = Option Content} (Some (Reference one)) (Some (Reference other)) → one ≡ other
reference_inner one other same = cc

pub walk_next : (objects : List (Option Object)) (count last next : ℕ) → objects ≡ cells count → 0 < last → last ≤ count → content_at objects (serial_of pred last) 0 ≡ Some (Reference (serial_of pred next)) → next ≡ last - 1
walk_next objects count last next same low high is = sym (serial_is next) ∙ sym (reference_inner (last - 1) (serial_of pred next) (sym (walk_content objects count last 0 same low high) ∙ is))

-- an array
all_blank : (size : ℕ) → IsTrue (list_all (λ content. is_reference (Some content)) (replicate size (Reference 0)))
all_blank zero = refl
all_blank (suc size) = all_blank size

after_both : (one other : Bool) → IsTrue (one && other) → IsTrue one × IsTrue other
after_both true other both = (refl, both)
after_both false other both = absurd (false≢true both)

all_with : (contents : List Content) (i to : ℕ) → IsTrue (list_all (λ content. is_reference (Some content)) contents) → IsTrue (list_all (λ content. is_reference (Some content)) (set contents i (Reference to)))
all_with [] i to all = refl
all_with (content ∷ contents) zero to all = (after_both (is_reference (Some content)) (list_all (λ content. is_reference (Some content)) contents) all).1
all_with (content ∷ contents) (suc i) to all =
    let both = after_both (is_reference (Some content)) (list_all (λ content. is_reference (Some content)) contents) all in
    rw both.0 (all_with contents i to both.1)

one_of : (contents : List Content) (i : ℕ) → i < length contents → IsTrue (list_all (λ content. is_reference (Some content)) contents) → IsTrue (is_reference (slice_get contents i))
one_of [] i below all = absurd (omega (arith, below))
one_of (content ∷ contents) zero below all = (after_both (is_reference (Some content)) (list_all (λ content. is_reference (Some content)) contents) all).0
one_of (content ∷ contents) (suc i) below all = one_of contents i (omega (arith, below)) (after_both (is_reference (Some content)) (list_all (λ content. is_reference (Some content)) contents) all).1

pub array_placed : (all : List Shape) (before now : List (Option Object)) (count : ℕ) → all ≡ two_kinds → before ≡ cells count → now ≡ before ++ Some (new_object all 7 1 count) ∷ [] → HasArray count now
array_placed all before now count shapes same placed = record {
  contents = replicate count (Reference 0);
  all = placed ∙ ap (λ objects. objects ++ Some (new_object all 7 1 count) ∷ []) same ∙ ap (λ all. cells count ++ Some (new_object all 7 1 count) ∷ []) shapes;
  long = length-replicate count (Reference 0);
  references = all_blank count;
}

pub array_serial : (serial place count : ℕ) (before : List (Option Object)) → before ≡ cells count → serial ≡ length before + 1 → serial ≡ serial_of pred place → place ≡ count + 1
array_serial serial place count before same is at = omega (arith, is, at, serial_is place, ap length same, cells_count count)

last_serial : (place count : ℕ) → place ≡ count + 1 → serial_of pred place ≡ suc (length (cells count))
last_serial place count at = omega (arith, serial_is place, at, cells_count count)

pub array_reads : (count place i : ℕ) (objects : List (Option Object)) → HasArray count objects → place ≡ count + 1 → i < count → IsTrue (is_reference (content_at objects (serial_of pred place) i))
array_reads count place i objects has at below =
    reads_last is_reference objects (cells count) (array has.contents) (serial_of pred place) i has.all (last_serial place count at) (one_of has.contents i (omega (arith, has.long, below)) has.references)

pub array_writes : (count place i to : ℕ) (objects now : List (Option Object)) → HasArray count objects → place ≡ count + 1 → now ≡ with_content objects (serial_of pred place) i (Reference to) → HasArray count now
array_writes count place i to objects now has at written = record {
  contents = set has.contents i (Reference to);
  all = writes_last objects now (cells count) (array has.contents) (serial_of pred place) i (Reference to) written has.all (last_serial place count at);
  long = length-set has.contents i (Reference to) ∙ has.long;
  references = all_with has.contents i to has.references;
}

pub array_kept : (count place : ℕ) (objects : List (Option Object)) → HasArray count objects → place ≡ count + 1 → IsTrue (is_kept objects (serial_of pred place))
array_kept count place objects has at =
    subst (λ objects. IsTrue (is_kept objects (serial_of pred place))) (sym has.all) (rw (last_there (cells count) (array has.contents) (serial_of pred place) (last_serial place count at)) refl)

pub array_length : (count : ℕ) (objects : List Object) → HasArray count (map Some objects) → length objects ≡ count + 1
array_length count objects has = one_longer objects (cells count) (array has.contents) has.all ∙ ap (λ n. n + 1) (cells_count count)

pub array_holds : (count to : ℕ) (objects : List Object) → HasArray count (map Some objects) → to ≤ count → IsTrue (is_held (map Some objects) (serial_of pred to))
array_holds count to objects has within = held_within objects (serial_of pred to) (omega (arith, serial_is to, array_length count objects has, within))

pub array_may : (count place to : ℕ) (objects : List Object) → HasArray count (map Some objects) → place ≡ count + 1 → to ≤ count →
    IsTrue (may_point (λ one other. true) (map Some objects) (serial_of pred place) (serial_of pred to))
array_may count place to objects has at within =
    let long = array_length count objects has in
    may_within objects (serial_of pred place) (serial_of pred to) (omega (arith, serial_is place, at)) (omega (arith, serial_is place, at, long)) (omega (arith, serial_is to, long, within))
