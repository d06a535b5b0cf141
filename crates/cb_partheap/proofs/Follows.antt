-- References follow what sites allow.
use Rattle.std.proofs.Common.{◌≡◌, ◌∙◌, ℕ, zero, suc, ◌+◌, ◌-◌, ◌<◌, ◌==◌, Bool, true, false, IsTrue, Option, Some, None, option_map, length, get_or, refl, sym, ap, arith, inl, inr}
use Rattle.std.proofs.lemmas.Bool.{cases_lt}
use Rattle.std.proofs.lemmas.List.FromFn.{get_or-map-range_with_len}
use Rattle.std.proofs.lemmas.Option.{none-some, same_Some, slice_get_past}
use Rattle.cb_plain.specs.State.{Object, Reference}
use Rattle.cb_plain.specs.Updates.{kept, object_in}
use Rattle.cb_heap.specs.Follows.{Follows}
use Rattle.cb_heap.specs.Reading.{serial_of}
use Rattle.cb_heap.specs.Store.{may_point}
use Rattle.cb_partheap.specs.Heaps.{Heap, content_of, index_in, marks_at, may_refer, object_by, objects_in, part_of, settings_in}
use Rattle.cb_partheap.specs.Spots.{IsSpot, Spot, serial_by, spot_where, words_by}
use Rattle.cb_partheap.specs.Whole.{IsHeap}
use Rattle.cb_partheap.specs.Words.{size_at}
use Rattle.cb_partheap.proofs.Calls.{content_by, object_length}
use Rattle.cb_partheap.proofs.Found.{spot_sound}
use Rattle.cb_partheap.proofs.Reading.{entry_at, length_objects, object_found, serial_found}

-- an object that is kept stands somewhere
pub record Stands (heap : Heap) (object : Object) : Type 0 where
  pub spot : Spot
  pub is : IsSpot heap.memory spot
  pub same : object ≡ object_by heap spot

stands_if : (heap : Heap) (n : ℕ) (object : Object) (found : Option Spot) → spot_where heap.memory (λ other. serial_by heap.memory other == n + 1) ≡ found → option_map (object_by heap) found ≡ Some object → Stands heap object
stands_if heap n object None is entry = absurd (none-some object entry)
stands_if heap n object (Some spot) is entry =
    record { spot = spot; is = (spot_sound heap.memory (λ other. serial_by heap.memory other == n + 1) spot is).0; same = sym (same_Some (object_by heap spot) object entry) }

pub stands : (heap : Heap) (serial : ℕ) (object : Object) → object_in (objects_in heap) serial ≡ Some object → Stands heap object
stands heap zero object there = absurd (none-some object there)
stands heap (suc n) object there =
    elim (cases_lt n (heap.next - 1)) [
      | inl below ↦ stands_if heap n object (spot_where heap.memory (λ other. serial_by heap.memory other == n + 1)) refl (sym (ap kept (entry_at heap n below)) ∙ there)
      | inr past ↦ absurd (none-some object (sym (ap kept (slice_get_past (objects_in heap) n (omega (arith, past, length_objects heap)))) ∙ there))
    ]

-- a word that is read as a reference
reference_word : (index : ℕ → ℕ) (mark : Bool) (word other : ℕ) → content_of index mark word ≡ Reference other → (mark ≡ true) × (serial_of index word ≡ other)
reference_word index true word other is = (refl, cc is)
reference_word index false word other is = absurd (cc is)

-- where an object is, what it may refer to is told by its site
pair_told : (heap : Heap) (one other : ℕ) (a b : Object) → object_in (objects_in heap) one ≡ Some a → object_in (objects_in heap) (suc other) ≡ Some b → (settings_in heap).allows a.site b.site ≡ true → IsTrue (may_point (settings_in heap).allows (objects_in heap) one (suc other))
pair_told heap one other a b first second allowed = rw (first, second) allowed

point_told : (heap : Heap) (one other : ℕ) (a b : Object) → 0 < other → object_in (objects_in heap) one ≡ Some a → object_in (objects_in heap) other ≡ Some b → (settings_in heap).allows a.site b.site ≡ true → IsTrue (may_point (settings_in heap).allows (objects_in heap) one other)
point_told heap one zero a b some first second allowed = absurd (omega (arith, some))
point_told heap one (suc other) a b some first second allowed = pair_told heap one other a b first second allowed

follows_one : (heap : Heap) (one other i : ℕ) (spot : Spot) → IsHeap heap → IsSpot heap.memory spot → 0 < other → object_in (objects_in heap) one ≡ Some (object_by heap spot) → i < size_at (words_by heap.memory spot) spot.start →
    content_by heap spot i ≡ Reference other → IsTrue (may_point (settings_in heap).allows (objects_in heap) one other)
follows_one heap one other i spot is here some there below holds =
    let read = reference_word (index_in heap) (marks_at heap.shapes (words_by heap.memory spot) spot.start i) (get_or (words_by heap.memory spot) (spot.start + (3 + i)) 0) other holds in
    elim (is.refers spot i here below read.0) [
      | inl none ↦ absurd (omega (arith, some, sym read.1 ∙ ap (serial_of (index_in heap)) none))
      | inr to ↦
          let serial : serial_by heap.memory to.0 ≡ other = sym (serial_found heap to.0 is to.1) ∙ ap (serial_of (index_in heap)) to.2 ∙ read.1 in
          point_told heap one other (object_by heap spot) (object_by heap to.0) some there (ap (object_in (objects_in heap)) (sym serial) ∙ object_found heap to.0 is to.1)
          (ap (λ part. may_refer heap.edges part (part_of heap.site_parts (object_by heap to.0).site)) (is.placed spot here).here ∙ ap (may_refer heap.edges spot.part) (is.placed to.0 to.1).here ∙ to.3)
    ]

pub follows : (heap : Heap) → IsHeap heap → Follows (settings_in heap).allows (objects_in heap)
follows heap is = record {
  each = λ one other points.
      let at = stands heap one points.object points.there in
      let long : length points.object.contents ≡ size_at (words_by heap.memory at.spot) at.spot.start = ap (λ (o : Object). length o.contents) at.same ∙ object_length heap at.spot in
      let i : ℕ = points.holds.0 in
      let below : i < size_at (words_by heap.memory at.spot) at.spot.start = omega (arith, points.holds.1, long) in
      let held : content_by heap at.spot i ≡ Reference other =
      sym (get_or-map-range_with_len (content_by heap at.spot) 0 (size_at (words_by heap.memory at.spot) at.spot.start) i i (Reference other) below (omega arith)) ∙ ap (λ (o : Object). get_or o.contents i (Reference other)) (sym at.same) ∙ points.holds.2 in
      follows_one heap one other i at.spot is at.is points.is_some (points.there ∙ ap Some at.same) below held;
}
