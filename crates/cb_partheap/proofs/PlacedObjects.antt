-- The objects of a heap with one more.
use Rattle.std.proofs.Common.{◌≡◌, ◌∙◌, ℕ, zero, suc, ◌+◌, ◌-◌, ◌/◌, ◌%◌, ◌^◌, ◌<◌, ◌==◌, Bool, true, false, IsTrue, Option, Some, None, option_map, List, [], ◌∷◌, ◌++◌, length, get_or, slice_get, refl, sym, ap, arith, inl, inr}
use Rattle.std.specs.Int.{int_wrap}
use Rattle.std.proofs.lemmas.Bool.{eq-eqb, eqb-true, false≢true}
use Rattle.std.proofs.lemmas.List.{get_or-map, get_or-replicate, length-map, length-replicate, same_lists}
use Rattle.std.proofs.lemmas.List.FromFn.{get_or-map-range_with_len, length-map-range_with_len, map-range_with_len_more}
use Rattle.cb_plain.specs.declared.shape.Shape.{Shape}
use Rattle.cb_plain.specs.declared.shape.Shape.TheVariants.{Elements, Fields}
use Rattle.cb_plain.specs.State.{Object, Reference, blank}
use Rattle.cb_heap.specs.Reading.{serial_of}
use Rattle.cb_heap.specs.Shaped.{has_size, new_object}
use Rattle.cb_heap.specs.Store.{ReadsAsBefore}
use Rattle.cb_blocks.specs.Parted.{Parted}
use Rattle.cb_blocks.specs.Rows.{tabulated}
use Rattle.cb_partheap.specs.Heaps.{Heap, content_of, holds, index_in, marks_at, object_by, objects_in, with_object}
use Rattle.cb_partheap.specs.Spots.{IsSpot, Spot, place_of, serial_by, spot_where, words_by}
use Rattle.cb_partheap.specs.Whole.{MayHold}
use Rattle.cb_partheap.specs.Words.{kind_at, site_at, size_at}
use Rattle.cb_partheap.proofs.Agree.{same_tabulated}
use Rattle.cb_partheap.proofs.Calls.{content_by, object_is}
use Rattle.cb_partheap.proofs.Found.{spot_none, spot_sound}
use Rattle.cb_partheap.proofs.Placed.{IsNew, kind_new, new_spot, place_there, site_new, size_new, spot_cases, spot_here, spot_there}
use Rattle.cb_partheap.proofs.PlacedHeap.{content_zero, header_stays, new_heap, serial_new, word_stays}
use Rattle.cb_partheap.proofs.Reading.{by_serial, found, length_objects, serial_found}

-- objects that were there are read as they were
index_stays : (heap : Heap) (memory : Parted) (site kind size : ℕ) (spot : Spot) → IsNew heap memory site kind size → IsSpot heap.memory spot →
    serial_of (index_in (with_object heap memory site size)) (place_of heap.memory spot) ≡ serial_by heap.memory spot
index_stays heap memory site kind size spot n here =
    ap (serial_of (index_in (with_object heap memory site size))) (sym (place_there heap memory site kind size spot n here))
    ∙ serial_found (with_object heap memory site size) spot (new_heap heap memory site kind size n) (spot_there heap memory site kind size spot n here)
    ∙ (header_stays heap memory site kind size spot n here).second

reads_stay : (heap : Heap) (memory : Parted) (site kind size part word : ℕ) → IsNew heap memory site kind size → MayHold heap part word →
    serial_of (index_in (with_object heap memory site size)) word ≡ serial_of (index_in heap) word
reads_stay heap memory site kind size part word n may =
    elim may [
      | inl none ↦ ap (serial_of (index_in (with_object heap memory site size))) none ∙ ap (serial_of (index_in heap)) (sym none)
      | inr some ↦
          ap (serial_of (index_in (with_object heap memory site size))) (sym some.2) ∙ index_stays heap memory site kind size some.0 n some.1
          ∙ sym (ap (serial_of (index_in heap)) (sym some.2) ∙ serial_found heap some.0 n.is some.1)
    ]

pub places_stay : (heap : Heap) (memory : Parted) (site kind size : ℕ) → IsNew heap memory site kind size → ReadsAsBefore (objects_in heap) (index_in heap) (index_in (with_object heap memory site size))
places_stay heap memory site kind size n zero held = refl
places_stay heap memory site kind size n (suc place) held =
    let here = found heap (suc place) n.is held in
    ap (serial_of (index_in (with_object heap memory site size))) (sym here.place) ∙ index_stays heap memory site kind size here.spot n here.is ∙ sym here.serial

content_reads : (index index' : ℕ → ℕ) (mark : Bool) (word : ℕ) → (mark ≡ true → serial_of index' word ≡ serial_of index word) → content_of index' mark word ≡ content_of index mark word
content_reads index index' true word same = ap Reference (same refl)
content_reads index index' false word same = refl

content_stays : (heap : Heap) (memory : Parted) (site kind size : ℕ) (spot : Spot) (i : ℕ) → IsNew heap memory site kind size → IsSpot heap.memory spot → i < size_at (words_by heap.memory spot) spot.start →
    content_by (with_object heap memory site size) spot i ≡ content_by heap spot i
content_stays heap memory site kind size spot i n here below =
    let new : Heap = with_object heap memory site size in
    let mark : Bool = marks_at heap.shapes (words_by heap.memory spot) spot.start i in
    let word : ℕ = get_or (words_by heap.memory spot) (spot.start + (3 + i)) 0 in
    ap (λ w. content_of (index_in new) (holds (slice_get heap.shapes (w % 2 ^ 32)) i) (get_or (words_by memory spot) (spot.start + (3 + i)) 0)) (header_stays heap memory site kind size spot n here).first
    ∙ ap (content_of (index_in new) mark) (word_stays heap memory site kind size spot (3 + i) n here (omega (arith, below)))
    ∙ content_reads (index_in heap) (index_in new) mark word (λ marked. reads_stay heap memory site kind size spot.part word n (n.is.refers spot i here below marked))

object_stays : (heap : Heap) (memory : Parted) (site kind size : ℕ) (spot : Spot) → IsNew heap memory site kind size → IsSpot heap.memory spot → object_by (with_object heap memory site size) spot ≡ object_by heap spot
object_stays heap memory site kind size spot n here =
    let same = header_stays heap memory site kind size spot n here in
    let old : List ℕ = words_by heap.memory spot in
    object_is (with_object heap memory site size) spot (site_at old spot.start) (kind_at old spot.start) (tabulated (size_at old spot.start) (content_by heap spot)) same.site (ap (λ w. w % 2 ^ 32) same.first)
    (ap (λ w. tabulated (w / 2 ^ 32) (content_by (with_object heap memory site size) spot)) same.first
    ∙ same_tabulated (size_at old spot.start) (content_by (with_object heap memory site size) spot) (content_by heap spot) (λ i below. content_stays heap memory site kind size spot i n here below))

-- the new one is blank
blank_of : (index : ℕ → ℕ) (mark : Bool) → content_of index mark 0 ≡ blank mark
unfolding int_wrap
blank_of index true = refl
blank_of index false = refl

blank_contents : (all : List Shape) (index : ℕ → ℕ) (site kind size : ℕ) (shape : Option Shape) → slice_get all kind ≡ shape → IsTrue (has_size all kind size) →
    tabulated size (λ i. content_of index (holds shape i) 0) ≡ (new_object all site kind size).contents
blank_contents all index site kind size None is shaped = absurd (false≢true (rw is at shaped))
blank_contents all index site kind size (Some (Fields marks)) is shaped =
    let count : length marks ≡ size = eqb-true (length marks) size (rw is at shaped) in
    let long = length-map-range_with_len (λ i. content_of index (get_or marks i false) 0) 0 size in
    rw is (same_lists _ _ (long ∙ sym count ∙ sym (length-map marks blank))
    (λ k d h. let below : k < size = omega (arith, h, long) in
    get_or-map-range_with_len (λ i. content_of index (get_or marks i false) 0) 0 size k k d below (omega arith) ∙ blank_of index (get_or marks k false)
    ∙ sym (get_or-map blank marks k false d (omega (arith, below, count)))))
blank_contents all index site kind size (Some (Elements mark)) is shaped =
    let long = length-map-range_with_len (λ i. content_of index mark 0) 0 size in
    rw is (same_lists _ _ (long ∙ sym (length-replicate size (blank mark)))
    (λ k d h. let below : k < size = omega (arith, h, long) in
    get_or-map-range_with_len (λ i. content_of index mark 0) 0 size k k d below (omega arith) ∙ blank_of index mark ∙ sym (get_or-replicate size k (blank mark) d below)))

object_new : (heap : Heap) (memory : Parted) (site kind size : ℕ) → IsNew heap memory site kind size → object_by (with_object heap memory site size) (new_spot heap site) ≡ new_object heap.shapes site kind size
object_new heap memory site kind size n =
    let here : Spot = new_spot heap site in
    let new : Heap = with_object heap memory site size in
    object_is new here site kind (new_object heap.shapes site kind size).contents (site_new heap memory site kind size n) (kind_new heap memory site kind size n)
    (ap (λ k. tabulated k (content_by new here)) (size_new heap memory site kind size n)
    ∙ same_tabulated size (content_by new here) (λ i. content_of (index_in new) (holds (slice_get heap.shapes kind) i) 0) (λ i below.
    ap (λ k. content_of (index_in new) (holds (slice_get heap.shapes k) i) (get_or (words_by memory here) (here.start + (3 + i)) 0)) (kind_new heap memory site kind size n)
    ∙ ap (content_of (index_in new) (holds (slice_get heap.shapes kind) i)) (content_zero heap memory site kind size i n below))
    ∙ blank_contents heap.shapes (index_in new) site kind size (slice_get heap.shapes kind) refl n.shaped)

-- entries stay, and one comes behind them
abbrev entry : Heap → ℕ → Option Object
entry heap n = option_map (object_by heap) (spot_where heap.memory (λ other. serial_by heap.memory other == n + 1))

none_new : (heap : Heap) (memory : Parted) (site kind size k : ℕ) (found : Option Spot) → IsNew heap memory site kind size → k < heap.next - 1 → spot_where heap.memory (λ other. serial_by heap.memory other == k + 1) ≡ None →
    spot_where memory (λ other. serial_by memory other == k + 1) ≡ found → found ≡ None
none_new heap memory site kind size k None n below none is = refl
none_new heap memory site kind size k (Some spot) n below none is =
    let sound = spot_sound memory (λ other. serial_by memory other == k + 1) spot is in
    let serial = eqb-true (serial_by memory spot) (k + 1) sound.1 in
    elim (spot_cases heap memory site kind size spot n sound.0) [
      | inl old ↦ absurd (spot_none heap.memory (λ other. serial_by heap.memory other == k + 1) spot none old (eq-eqb (serial_by heap.memory spot) (k + 1) (sym (header_stays heap memory site kind size spot n old).second ∙ serial)))
      | inr new ↦ absurd (omega (arith, below, serial, ap (serial_by memory) new, serial_new heap memory site kind size n))
    ]

entry_if : (heap : Heap) (memory : Parted) (site kind size k : ℕ) (found : Option Spot) → IsNew heap memory site kind size → k < heap.next - 1 → spot_where heap.memory (λ other. serial_by heap.memory other == k + 1) ≡ found →
    entry (with_object heap memory site size) k ≡ option_map (object_by heap) found
entry_if heap memory site kind size k None n below is =
    ap (option_map (object_by (with_object heap memory site size))) (none_new heap memory site kind size k (spot_where memory (λ other. serial_by memory other == k + 1)) n below is refl)
entry_if heap memory site kind size k (Some spot) n below is =
    let sound = spot_sound heap.memory (λ other. serial_by heap.memory other == k + 1) spot is in
    let serial = eqb-true (serial_by heap.memory spot) (k + 1) sound.1 in
    ap (option_map (object_by (with_object heap memory site size))) (by_serial (with_object heap memory site size) spot (k + 1) (new_heap heap memory site kind size n) (spot_there heap memory site kind size spot n sound.0)
    ((header_stays heap memory site kind size spot n sound.0).second ∙ serial))
    ∙ ap Some (object_stays heap memory site kind size spot n sound.0)

pub objects_new : (heap : Heap) (memory : Parted) (site kind size : ℕ) → IsNew heap memory site kind size → objects_in (with_object heap memory site size) ≡ objects_in heap ++ Some (new_object heap.shapes site kind size) ∷ []
unfolding objects_in
objects_new heap memory site kind size n =
    let new : Heap = with_object heap memory site size in
    let count : heap.next + 1 - 1 ≡ heap.next - 1 + 1 = omega (arith, n.is.some) in
    let last : heap.next - 1 + 1 ≡ heap.next = omega (arith, n.is.some) in
    ap (λ k. tabulated k (entry new)) count ∙ map-range_with_len_more (entry new) 0 (heap.next - 1) (heap.next - 1) (omega arith)
    ∙ ap (λ xs. xs ++ entry new (heap.next - 1) ∷ []) (same_tabulated (heap.next - 1) (entry new) (entry heap) (λ k below. entry_if heap memory site kind size k (spot_where heap.memory (λ other. serial_by heap.memory other == k + 1)) n below refl))
    ∙ ap (λ object. tabulated (heap.next - 1) (entry heap) ++ object ∷ [])
    (ap (option_map (object_by new)) (by_serial new (new_spot heap site) (heap.next - 1 + 1) (new_heap heap memory site kind size n) (spot_here heap memory site kind size n) (serial_new heap memory site kind size n ∙ sym last))
    ∙ ap Some (object_new heap memory site kind size n))

pub place_new : (heap : Heap) (memory : Parted) (site kind size : ℕ) → IsNew heap memory site kind size → serial_of (index_in (with_object heap memory site size)) (place_of memory (new_spot heap site)) ≡ length (objects_in heap) + 1
place_new heap memory site kind size n =
    let serial = serial_found (with_object heap memory site size) (new_spot heap site) (new_heap heap memory site kind size n) (spot_here heap memory site kind size n) in
    omega (arith, serial, serial_new heap memory site kind size n, length_objects heap, n.is.some)
