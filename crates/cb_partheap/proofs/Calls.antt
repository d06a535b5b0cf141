-- What is read of an object by its place.
use Rattle.std.proofs.Common.{◌≡◌, ◌∙◌, ℕ, pos, zero, suc, ◌+◌, ◌<◌, Bool, true, false, IsTrue, Option, Some, None, is_some, List, [], ◌∷◌, length, get_or, slice_get, refl, sym, ap, arith, subst}
use Rattle.std.specs.Int.{int_wrap, w64}
use Rattle.std.proofs.lemmas.Bool.{false≢true}
use Rattle.std.proofs.lemmas.List.FromFn.{length-map-range_with_len}
use Rattle.std.proofs.lemmas.Option.{get_or_from_slice_get}
use Rattle.cb_plain.specs.State.{Content, Number, Object, Reference}
use Rattle.cb_plain.specs.Updates.{object_in}
use Rattle.cb_heap.specs.Kept.{content_at, contents_at, is_kept, is_number, is_reference}
use Rattle.cb_heap.specs.Reading.{serial_of}
use Rattle.cb_partheap.specs.Headers.{IsWord}
use Rattle.cb_blocks.specs.Rows.{tabulated}
use Rattle.cb_partheap.specs.Heaps.{Heap, content_of, index_in, marks_at, object_by, objects_in}
use Rattle.cb_partheap.specs.Spots.{Spot, words_by}
use Rattle.cb_partheap.specs.Whole.{IsHeap}
use Rattle.cb_partheap.specs.Words.{kind_at, site_at, size_at}
use Rattle.cb_partheap.proofs.Reading.{Found, found, header_found, slice_get-tabulated}

-- a word of its header is there, and what is read of it
pub header_word : {heap now : Heap} (at k : ℕ) → k < 3 → IsHeap heap → heap ≡ now → IsTrue (is_kept (objects_in now) (serial_of (index_in now) at)) → (spot : Spot) × IsWord heap.memory at k spot
header_word {heap} {now} at k few is same there =
    let here = found heap at is (subst (λ (h : Heap). IsTrue (is_kept (objects_in h) (serial_of (index_in h) at))) (sym same) there) in
    (here.spot, record { header = header_found heap at is here; below = omega (arith, few) })

abbrev Reads : Heap → ℕ → ℕ → ℕ → Type 0
Reads heap at k word = (spot : Spot) → IsWord heap.memory at k spot → slice_get (words_by heap.memory spot) (spot.start + k) ≡ Some word

pub record Header (heap : Heap) (at k word : ℕ) : Type 0 where
  pub found : Found heap at
  pub word_is : get_or (words_by heap.memory found.spot) (found.spot.start + k) 0 ≡ word

pub header_read : {heap now : Heap} (at k word : ℕ) → k < 3 → IsHeap heap → heap ≡ now → IsTrue (is_kept (objects_in now) (serial_of (index_in now) at)) → Reads heap at k word → Header now at k word
header_read {heap} {now} at k word few is same there reads =
    let here = found heap at is (subst (λ (h : Heap). IsTrue (is_kept (objects_in h) (serial_of (index_in h) at))) (sym same) there) in
    let read : Header heap at k word = record {
      found = here;
      word_is = get_or_from_slice_get (words_by heap.memory here.spot) (here.spot.start + k) word 0 (reads here.spot (record { header = header_found heap at is here; below = omega (arith, few) }));
    } in
    subst (λ (h : Heap). Header h at k word) same read

pub object_length : (heap : Heap) (spot : Spot) → length (object_by heap spot).contents ≡ size_at (words_by heap.memory spot) spot.start
object_length heap spot = length-map-range_with_len (λ i. content_of (index_in heap) (marks_at heap.shapes (words_by heap.memory spot) spot.start i) (get_or (words_by heap.memory spot) (spot.start + (3 + i)) 0)) 0 (size_at (words_by heap.memory spot) spot.start)

pub contents_found : (objects : List (Option Object)) (serial : ℕ) (object : Object) → object_in objects serial ≡ Some object → contents_at objects serial ≡ object.contents
contents_found objects serial object is = rw is refl

-- a word of contents that passes a test that none passes where nothing is
there_if : (test : Option Content → Bool) → test None ≡ false → (objects : List (Option Object)) (serial i : ℕ) (object : Option Object) → object_in objects serial ≡ object →
    IsTrue (test (content_at objects serial i)) → IsTrue (is_some object)
there_if test none objects serial i None is passes = absurd (false≢true (sym none ∙ rw is at passes))
there_if test none objects serial i (Some object) is passes = refl

within_if : (test : Option Content → Bool) → test None ≡ false → (contents : List Content) (i : ℕ) → IsTrue (test (slice_get contents i)) → i < length contents
within_if test none [] i passes = absurd (false≢true (sym none ∙ passes))
within_if test none (content ∷ contents) zero passes = omega arith
within_if test none (content ∷ contents) (suc i) passes = omega (arith, within_if test none contents i passes)

-- what a word of an object's contents holds
abbrev pub content_by : Heap → Spot → ℕ → Content
content_by heap spot i = content_of (index_in heap) (marks_at heap.shapes (words_by heap.memory spot) spot.start i) (get_or (words_by heap.memory spot) (spot.start + (3 + i)) 0)

pub record FoundWord (test : Option Content → Bool) (heap : Heap) (at i : ℕ) : Type 0 where
  pub found : Found heap at
  pub below : i < size_at (words_by heap.memory found.spot) found.spot.start
  pub content : content_at (objects_in heap) (serial_of (index_in heap) at) i ≡ Some (content_by heap found.spot i)
  pub passes : IsTrue (test (Some (content_by heap found.spot i)))

pub found_word : (test : Option Content → Bool) → test None ≡ false → (heap : Heap) (at i : ℕ) → IsHeap heap → IsTrue (test (content_at (objects_in heap) (serial_of (index_in heap) at) i)) → FoundWord test heap at i
found_word test none heap at i is passes =
    let here = found heap at is (there_if test none (objects_in heap) (serial_of (index_in heap) at) i (object_in (objects_in heap) (serial_of (index_in heap) at)) refl passes) in
    let object : Object = object_by heap here.spot in
    let same : content_at (objects_in heap) (serial_of (index_in heap) at) i ≡ slice_get object.contents i = ap (λ contents. slice_get contents i) (contents_found (objects_in heap) (serial_of (index_in heap) at) object here.object) in
    let below : i < length object.contents = within_if test none object.contents i (subst (λ content. IsTrue (test content)) same passes) in
    let few : i < size_at (words_by heap.memory here.spot) here.spot.start = subst (λ count. i < count) (object_length heap here.spot) below in
    let content = same ∙ slice_get-tabulated (size_at (words_by heap.memory here.spot) here.spot.start) (content_by heap here.spot) i few in
    record { found = here; below = few; content = content; passes = subst (λ content. IsTrue (test content)) content passes }

pub word_found : (test : Option Content → Bool) (heap : Heap) (at i : ℕ) → IsHeap heap → (here : FoundWord test heap at i) → IsWord heap.memory at (3 + i) here.found.spot
word_found test heap at i is here = record { header = header_found heap at is here.found; below = omega (arith, here.below) }

-- what marks tell of contents
pub number_in : (index : ℕ → ℕ) (mark : Bool) (word other : ℕ) → IsTrue (is_number (Some (content_of index mark word))) → content_of index mark other ≡ Number (int_wrap w64 (pos other))
number_in index true word other is = absurd (false≢true is)
number_in index false word other is = refl

pub reference_in : (index : ℕ → ℕ) (mark : Bool) (word other : ℕ) → IsTrue (is_reference (Some (content_of index mark word))) → content_of index mark other ≡ Reference (serial_of index other)
reference_in index true word other is = refl
reference_in index false word other is = absurd (false≢true is)

-- a word of contents is there, and what is read of it
pub content_word : {heap now : Heap} (test : Option Content → Bool) → test None ≡ false → (at i : ℕ) → IsHeap heap → heap ≡ now → IsTrue (test (content_at (objects_in now) (serial_of (index_in now) at) i)) →
    (spot : Spot) × IsWord heap.memory at (3 + i) spot
content_word {heap} {now} test none at i is same passes =
    let here = found_word test none heap at i is (subst (λ (h : Heap). IsTrue (test (content_at (objects_in h) (serial_of (index_in h) at) i))) (sym same) passes) in
    (here.found.spot, word_found test heap at i is here)

pub record ContentRead (test : Option Content → Bool) (heap : Heap) (at i word : ℕ) : Type 0 where
  pub here : FoundWord test heap at i
  pub word_is : get_or (words_by heap.memory here.found.spot) (here.found.spot.start + (3 + i)) 0 ≡ word

pub content_read : {heap now : Heap} (test : Option Content → Bool) → test None ≡ false → (at i word : ℕ) → IsHeap heap → heap ≡ now → IsTrue (test (content_at (objects_in now) (serial_of (index_in now) at) i)) → Reads heap at (3 + i) word →
    ContentRead test now at i word
content_read {heap} {now} test none at i word is same passes reads =
    let here = found_word test none heap at i is (subst (λ (h : Heap). IsTrue (test (content_at (objects_in h) (serial_of (index_in h) at) i))) (sym same) passes) in
    let read : ContentRead test heap at i word = record {
      here = here;
      word_is = get_or_from_slice_get (words_by heap.memory here.found.spot) (here.found.spot.start + (3 + i)) word 0 (reads here.found.spot (word_found test heap at i is here));
    } in
    subst (λ (h : Heap). ContentRead test h at i word) same read

pub number_read : (heap : Heap) (at i word : ℕ) → ContentRead is_number heap at i word → content_at (objects_in heap) (serial_of (index_in heap) at) i ≡ Some (Number (int_wrap w64 (pos word)))
number_read heap at i word read =
    let spot : Spot = read.here.found.spot in
    let old : ℕ = get_or (words_by heap.memory spot) (spot.start + (3 + i)) 0 in
    read.here.content ∙ ap Some (number_in (index_in heap) (marks_at heap.shapes (words_by heap.memory spot) spot.start i) old old read.here.passes) ∙ ap (λ word. Some (Number (int_wrap w64 (pos word)))) read.word_is

pub reference_read : (heap : Heap) (at i word : ℕ) → ContentRead is_reference heap at i word → content_at (objects_in heap) (serial_of (index_in heap) at) i ≡ Some (Reference (serial_of (index_in heap) word))
reference_read heap at i word read =
    let spot : Spot = read.here.found.spot in
    let old : ℕ = get_or (words_by heap.memory spot) (spot.start + (3 + i)) 0 in
    read.here.content ∙ ap Some (reference_in (index_in heap) (marks_at heap.shapes (words_by heap.memory spot) spot.start i) old old read.here.passes) ∙ ap (λ word. Some (Reference (serial_of (index_in heap) word))) read.word_is

-- an object by its header and its contents
pub object_is : (heap : Heap) (spot : Spot) (site kind : ℕ) (contents : List Content) → site_at (words_by heap.memory spot) spot.start ≡ site → kind_at (words_by heap.memory spot) spot.start ≡ kind →
    tabulated (size_at (words_by heap.memory spot) spot.start) (content_by heap spot) ≡ contents → object_by heap spot ≡ record { site = site; kind = kind; contents = contents }
object_is heap spot site kind contents site_is kind_is contents_are =
    let made : ℕ → ℕ → List Content → Object = λ site kind contents. record { site = site; kind = kind; contents = contents } in
    ap (λ s. made s (kind_at (words_by heap.memory spot) spot.start) (tabulated (size_at (words_by heap.memory spot) spot.start) (content_by heap spot))) site_is
    ∙ ap (λ k. made site k (tabulated (size_at (words_by heap.memory spot) spot.start) (content_by heap spot))) kind_is ∙ ap (made site kind) contents_are
