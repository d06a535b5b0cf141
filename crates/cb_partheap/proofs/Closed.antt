-- No object of a heap names one that isn't kept.
use Rattle.std.proofs.Common.{◌≡◌, ◌∙◌, ℕ, zero, suc, ◌+◌, ◌<◌, Bool, true, false, IsTrue, Option, Some, None, List, get_or, slice_get, refl, sym, ap, arith, subst, inl, inr}
use Rattle.std.specs.List.{list_all}
use Rattle.std.proofs.lemmas.Option.{same_Some, slice_get_within}
use Rattle.cb_plain.specs.Reach.{unless_null}
use Rattle.cb_plain.specs.State.{Content, Object}
use Rattle.cb_plain.specs.Updates.{kept, object_in}
use Rattle.cb_heap.specs.Closed.{reference_in_word, references_in, references_in_entry}
use Rattle.cb_heap.specs.Kept.{is_held}
use Rattle.cb_heap.specs.Reading.{serial_of}
use Rattle.cb_heap.proofs.Laws.{all_parts}
use Rattle.cb_partheap.specs.Heaps.{Heap, content_of, index_in, marks_at, object_by, objects_in}
use Rattle.cb_partheap.specs.Spots.{IsSpot, Spot, serial_by, words_by}
use Rattle.cb_partheap.specs.Whole.{IsHeap, MayHold}
use Rattle.cb_partheap.specs.Words.{size_at}
use Rattle.cb_partheap.proofs.Calls.{content_by, object_length}
use Rattle.cb_partheap.proofs.Follows.{stands}
use Rattle.cb_partheap.proofs.Reading.{object_found, serial_found, slice_get-tabulated}

-- a serial of an object that is kept
kept_serial : (objects : List (Option Object)) (serial : ℕ) (object : Object) → 0 < serial → object_in objects serial ≡ Some object → IsTrue (list_all (is_held objects) (unless_null serial))
kept_serial objects zero object some is = absurd (omega (arith, some))
kept_serial objects (suc n) object some is = rw is refl

-- a word of contents
held_word : (heap : Heap) (mark : Bool) (word part : ℕ) → IsHeap heap → (mark ≡ true → MayHold heap part word) → IsTrue (list_all (is_held (objects_in heap)) (reference_in_word (content_of (index_in heap) mark word)))
held_word heap false word part is may = refl
held_word heap true word part is may =
    elim (may refl) [
      | inl none ↦ subst (λ w. IsTrue (list_all (is_held (objects_in heap)) (unless_null (serial_of (index_in heap) w)))) (sym none) refl
      | inr to ↦
          let serial : serial_of (index_in heap) word ≡ serial_by heap.memory to.0 = ap (serial_of (index_in heap)) (sym to.2) ∙ serial_found heap to.0 is to.1 in
          subst (λ s. IsTrue (list_all (is_held (objects_in heap)) (unless_null s))) (sym serial) (kept_serial (objects_in heap) (serial_by heap.memory to.0) (object_by heap to.0) (is.placed to.0 to.1).low (object_found heap to.0 is to.1))
    ]

held_content : (heap : Heap) (spot : Spot) (i : ℕ) (content : Content) → IsHeap heap → IsSpot heap.memory spot → slice_get (object_by heap spot).contents i ≡ Some content → IsTrue (list_all (is_held (objects_in heap)) (reference_in_word content))
held_content heap spot i content is here there =
    let words : List ℕ = words_by heap.memory spot in
    let below : i < size_at words spot.start = omega (arith, slice_get_within (object_by heap spot).contents i content there, object_length heap spot) in
    let held : content_by heap spot i ≡ content = same_Some (content_by heap spot i) content (sym (slice_get-tabulated (size_at words spot.start) (content_by heap spot) i below) ∙ there) in
    subst (λ (c : Content). IsTrue (list_all (is_held (objects_in heap)) (reference_in_word c))) held
    (held_word heap (marks_at heap.shapes words spot.start i) (get_or words (spot.start + (3 + i)) 0) spot.part is (λ marked. is.refers spot i here below marked))

held_entry : (heap : Heap) (place : ℕ) (entry : Option Object) → IsHeap heap → slice_get (objects_in heap) place ≡ Some entry → IsTrue (list_all (is_held (objects_in heap)) (references_in_entry entry))
held_entry heap place None is there = refl
held_entry heap place (Some object) is there =
    let at = stands heap (suc place) object (ap kept there) in
    all_parts (is_held (objects_in heap)) reference_in_word object.contents (λ i content held.
    held_content heap at.spot i content is at.is (subst (λ (o : Object). slice_get o.contents i ≡ Some content) at.same held))

pub closed_objects : (heap : Heap) → IsHeap heap → IsTrue (list_all (is_held (objects_in heap)) (references_in (objects_in heap)))
closed_objects heap is = all_parts (is_held (objects_in heap)) references_in_entry (objects_in heap) (λ place entry there. held_entry heap place entry is there)
