-- Objects of a heap by their places.
use Rattle.std.proofs.Common.{◌≡◌, ◌∙◌, ℕ, zero, suc, ◌+◌, ◌-◌, ◌<◌, ◌≤◌, ◌==◌, IsTrue, Option, Some, None, option_map, is_some, List, length, take, slice_get, refl, sym, ap, arith}
use Rattle.std.specs.List.{range_with_len}
use Rattle.std.proofs.lemmas.Bool.{eq-eqb, eqb-true, false≢true}
use Rattle.std.proofs.lemmas.List.{take_all}
use Rattle.std.proofs.lemmas.List.FromFn.{get_or-range_with_len, length-map-range_with_len, length-range_with_len}
use Rattle.std.proofs.lemmas.Option.{slice_get-get_or, slice_get-map, slice_get_past}
use Rattle.cb_plain.specs.State.{Object, words_of}
use Rattle.cb_plain.specs.Updates.{kept, object_in}
use Rattle.cb_heap.specs.Kept.{is_kept}
use Rattle.cb_heap.specs.Reading.{serial_of}
use Rattle.cb_blocks.specs.Rows.{tabulated}
use Rattle.cb_partheap.specs.Headers.{IsHeader}
use Rattle.cb_partheap.specs.Heaps.{Heap, index_in, object_by, objects_in}
use Rattle.cb_partheap.specs.Spots.{IsSpot, Spot, place_of, serial_by, spot_where, words_by}
use Rattle.cb_partheap.specs.Whole.{IsHeap}
use Rattle.cb_partheap.specs.Words.{missing, size_at}
use Rattle.cb_partheap.proofs.Found.{place_found, spot_found, spot_sound}
use Rattle.cb_partheap.proofs.Missing.{gap}

-- reading of a place and an entry by a serial that isn't 0
pub serial_there : (index : ℕ → ℕ) (at : ℕ) → 0 < at → serial_of index at ≡ index at + 1
serial_there index zero some = absurd (omega (arith, some))
serial_there index (suc n) some = omega arith

pub object_there : (objects : List (Option Object)) (serial : ℕ) → 0 < serial → object_in objects serial ≡ kept (slice_get objects (serial - 1))
object_there objects zero some = absurd (omega (arith, some))
object_there objects (suc n) some = let back : n ≡ suc n - 1 = omega arith in ap (λ i. kept (slice_get objects i)) back

-- values that are made of their places
pub slice_get-tabulated : {X : Type 0} (count : ℕ) (value : ℕ → X) (i : ℕ) → i < count → slice_get (tabulated count value) i ≡ Some (value i)
slice_get-tabulated {X} count value i below =
    slice_get-map value (range_with_len 0 count) i
    ∙ ap (option_map value) (slice_get-get_or (range_with_len 0 count) i 0 (omega (arith, length-range_with_len 0 count, below)) ∙ ap Some (get_or-range_with_len 0 count i 0 below))
    ∙ ap (λ n. Some (value n)) (let e : 0 + i ≡ i = omega arith in e)

-- an object has one place and one serial
pub index_found : (heap : Heap) (spot : Spot) → IsHeap heap → IsSpot heap.memory spot → index_in heap (place_of heap.memory spot) ≡ serial_by heap.memory spot - 1
unfolding index_in
index_found heap spot is here = rw (place_found heap.memory spot is.parted here) refl

pub serial_found : (heap : Heap) (spot : Spot) → IsHeap heap → IsSpot heap.memory spot → serial_of (index_in heap) (place_of heap.memory spot) ≡ serial_by heap.memory spot
serial_found heap spot is here =
    let low = (is.placed spot here).low in
    omega (arith, low, serial_there (index_in heap) (place_of heap.memory spot) (omega arith), index_found heap spot is here)

pub by_serial : (heap : Heap) (spot : Spot) (serial : ℕ) → IsHeap heap → IsSpot heap.memory spot → serial_by heap.memory spot ≡ serial → spot_where heap.memory (λ other. serial_by heap.memory other == serial) ≡ Some spot
by_serial heap spot serial is here same =
    spot_found heap.memory (λ other. serial_by heap.memory other == serial) spot here (eq-eqb (serial_by heap.memory spot) serial same)
    (λ other there passes. is.once other spot there here (eqb-true (serial_by heap.memory other) serial passes ∙ sym same))

pub length_objects : (heap : Heap) → length (objects_in heap) ≡ heap.next - 1
unfolding objects_in
length_objects heap = length-map-range_with_len (λ n. option_map (object_by heap) (spot_where heap.memory (λ spot. serial_by heap.memory spot == n + 1))) 0 (heap.next - 1)

pub entry_at : (heap : Heap) (n : ℕ) → n < heap.next - 1 → slice_get (objects_in heap) n ≡ Some (option_map (object_by heap) (spot_where heap.memory (λ spot. serial_by heap.memory spot == n + 1)))
unfolding objects_in
entry_at heap n below = slice_get-tabulated (heap.next - 1) (λ n. option_map (object_by heap) (spot_where heap.memory (λ spot. serial_by heap.memory spot == n + 1))) n below

pub object_found : (heap : Heap) (spot : Spot) → IsHeap heap → IsSpot heap.memory spot → object_in (objects_in heap) (serial_by heap.memory spot) ≡ Some (object_by heap spot)
object_found heap spot is here =
    let low = (is.placed spot here).low in
    let high = (is.placed spot here).high in
    object_there (objects_in heap) (serial_by heap.memory spot) low
    ∙ ap kept (entry_at heap (serial_by heap.memory spot - 1) (omega (arith, low, high)) ∙ ap (λ found. Some (option_map (object_by heap) found)) (by_serial heap spot (serial_by heap.memory spot - 1 + 1) is here (omega (arith, low))))

-- the object at a place that is read as one that is kept
pub record Found (heap : Heap) (at : ℕ) : Type 0 where
  pub spot : Spot
  pub is : IsSpot heap.memory spot
  pub place : place_of heap.memory spot ≡ at
  pub serial : serial_of (index_in heap) at ≡ serial_by heap.memory spot
  pub object : object_in (objects_in heap) (serial_of (index_in heap) at) ≡ Some (object_by heap spot)

pub found_at : (heap : Heap) (spot : Spot) (at : ℕ) → IsHeap heap → IsSpot heap.memory spot → place_of heap.memory spot ≡ at → Found heap at
found_at heap spot at is here place =
    let serial = ap (serial_of (index_in heap)) (sym place) ∙ serial_found heap spot is here in
    record { spot = spot; is = here; place = place; serial = serial; object = ap (object_in (objects_in heap)) serial ∙ object_found heap spot is here }

nowhere : (heap : Heap) (at : ℕ) → spot_where heap.memory (λ spot. place_of heap.memory spot == at) ≡ None → index_in heap at ≡ heap.next - 1
unfolding index_in
nowhere heap at none = rw none refl

found_if : (heap : Heap) (at : ℕ) (found : Option Spot) → spot_where heap.memory (λ spot. place_of heap.memory spot == at) ≡ found → IsHeap heap → 0 < at →
    IsTrue (is_kept (objects_in heap) (serial_of (index_in heap) at)) → Found heap at
found_if heap at None none is some there =
    let serial : serial_of (index_in heap) at ≡ heap.next - 1 + 1 = serial_there (index_in heap) at some ∙ ap (λ n. n + 1) (nowhere heap at none) in
    let past : slice_get (objects_in heap) (heap.next - 1 + 1 - 1) ≡ None = slice_get_past (objects_in heap) (heap.next - 1 + 1 - 1) (omega (arith, length_objects heap)) in
    let gone : object_in (objects_in heap) (serial_of (index_in heap) at) ≡ None =
    ap (object_in (objects_in heap)) serial ∙ object_there (objects_in heap) (heap.next - 1 + 1) (omega arith) ∙ ap kept past in
    absurd (false≢true (sym (ap is_some gone) ∙ there))
found_if heap at (Some spot) found is some there =
    let sound = spot_sound heap.memory (λ spot. place_of heap.memory spot == at) spot found in
    found_at heap spot at is sound.0 (eqb-true (place_of heap.memory spot) at sound.1)

pub found : (heap : Heap) (at : ℕ) → IsHeap heap → IsTrue (is_kept (objects_in heap) (serial_of (index_in heap) at)) → Found heap at
found heap zero is there = absurd (false≢true there)
found heap (suc n) is there = found_if heap (suc n) (spot_where heap.memory (λ spot. place_of heap.memory spot == suc n)) refl is (omega arith) there

-- all of an object lies in its part
pub within : (heap : Heap) (spot : Spot) → IsHeap heap → IsSpot heap.memory spot → spot.start + words_of (size_at (words_by heap.memory spot) spot.start) ≤ length (words_by heap.memory spot)
within heap spot is here =
    let words : List ℕ = words_by heap.memory spot in
    let all : missing 0 (take (length words) words) ≡ 0 = ap (missing 0) (take_all (length words) words (omega arith)) ∙ is.whole spot.part here.part in
    gap words spot.start (length words) here.inside (omega arith) here.whole all

pub header_found : (heap : Heap) (at : ℕ) → IsHeap heap → (here : Found heap at) → IsHeader heap.memory at here.spot
header_found heap at is here = record { sound = is.parted; part = here.is.part; whole = within heap here.spot is here.is; place = sym here.place }
