-- Another word in the contents of an object.
use Rattle.std.proofs.Common.{◌≡◌, ◌≢◌, ◌∙◌, ℕ, suc, ◌+◌, ◌-◌, ◌%◌, ◌^◌, ◌<◌, ◌==◌, true, Option, Some, None, option_map, get_or, set, slice_get, refl, sym, ap, arith, subst, inl, inr}
use Rattle.std.proofs.lemmas.Bool.{cases_eq, eqb-true}
use Rattle.cb_plain.specs.State.{Content, Object}
use Rattle.cb_plain.specs.Updates.{with_contents_in}
use Rattle.cb_heap.specs.Kept.{with_content}
use Rattle.cb_partheap.specs.Heaps.{Heap, content_of, index_in, marks_at, object_by, objects_in, with_word}
use Rattle.cb_partheap.specs.Spots.{IsSpot, Spot, serial_by, spot_where, words_by}
use Rattle.cb_partheap.specs.Whole.{IsHeap, MayHold}
use Rattle.cb_partheap.specs.Words.{size_at}
use Rattle.cb_partheap.proofs.Agree.{changed_there, set_tabulated, with_contents}
use Rattle.cb_partheap.proofs.Alike.{IsAlike, StillRefers, alike_content, alike_entry, alike_heap, alike_index, alike_object, same_object}
use Rattle.cb_partheap.proofs.Calls.{content_by, contents_found}
use Rattle.cb_partheap.proofs.Found.{spot_sound}
use Rattle.cb_partheap.proofs.Inner.{IsInner, inner_alike, spot_cases, word_elsewhere, word_here}
use Rattle.cb_partheap.proofs.Reading.{by_serial, entry_at, object_found}

-- a word of contents that may be written
pub record IsContent (heap : Heap) (spot : Spot) (i word : ℕ) : Type 0 where
  pub is : IsHeap heap
  pub here : IsSpot heap.memory spot
  pub below : i < size_at (words_by heap.memory spot) spot.start
  pub may : marks_at heap.shapes (words_by heap.memory spot) spot.start i ≡ true → MayHold heap spot.part word

content_inner : (heap : Heap) (spot : Spot) (i word : ℕ) → IsContent heap spot i word → IsInner heap spot (3 + i)
content_inner heap spot i word c = record { is = c.is; here = c.here; behind = omega arith; below = omega (arith, c.below) }

written_alike : (heap : Heap) (spot : Spot) (i word : ℕ) → IsContent heap spot i word → IsAlike heap.memory (with_word heap spot i word).memory
written_alike heap spot i word c =
    let n = content_inner heap spot i word c in
    inner_alike heap spot (3 + i) word n (λ other there. ap (λ w. w % 2 ^ 14) (word_elsewhere heap spot other (3 + i) word 2 n there (omega arith) (λ same equal. absurd (omega (arith, equal)))))

-- each other word of contents is as it was
content_elsewhere : (heap : Heap) (spot other : Spot) (i word j : ℕ) → IsContent heap spot i word → IsSpot heap.memory other → j < size_at (words_by heap.memory other) other.start → (other ≡ spot → j ≢ i) →
    get_or (words_by (with_word heap spot i word).memory other) (other.start + (3 + j)) 0 ≡ get_or (words_by heap.memory other) (other.start + (3 + j)) 0
content_elsewhere heap spot other i word j c there below differs =
    word_elsewhere heap spot other (3 + i) word (3 + j) (content_inner heap spot i word c) there (omega (arith, below)) (λ same equal. differs same (omega (arith, equal)))

written_refers : (heap : Heap) (spot : Spot) (i word : ℕ) → IsContent heap spot i word → StillRefers heap (with_word heap spot i word).memory
written_refers heap spot i word c other j there below marked =
    let memory = (with_word heap spot i word).memory in
    let elsewhere : (other ≡ spot → j ≢ i) → MayHold heap other.part (get_or (words_by memory other) (other.start + (3 + j)) 0) =
    λ differs. subst (MayHold heap other.part) (sym (content_elsewhere heap spot other i word j c there below differs)) (c.is.refers other j there below marked) in
    elim (cases_eq j i) [
      | inr differs ↦ elsewhere (λ same. differs)
      | inl equal ↦
          let Good : Spot → ℕ → Type 0 = λ s k. marks_at heap.shapes (words_by heap.memory s) s.start k ≡ true → MayHold heap s.part (get_or (words_by memory s) (s.start + (3 + k)) 0) in
          let good : Good spot i = λ marked'. subst (MayHold heap spot.part) (sym (word_here heap spot (3 + i) word (content_inner heap spot i word c))) (c.may marked') in
          spot_cases (λ s. Good s j) spot other (subst (Good spot) (sym equal) good) (λ differs marked'. elsewhere (λ same. absurd (differs same))) marked
    ]

pub put_heap : (heap : Heap) (spot : Spot) (i word : ℕ) → IsContent heap spot i word → IsHeap (with_word heap spot i word)
put_heap heap spot i word c = alike_heap heap (with_word heap spot i word).memory c.is (written_alike heap spot i word c) (written_refers heap spot i word c)

-- places read as they did
pub put_index : (heap : Heap) (spot : Spot) (i word : ℕ) → IsContent heap spot i word → index_in (with_word heap spot i word) ≡ index_in heap
put_index heap spot i word c = alike_index heap (with_word heap spot i word).memory (written_alike heap spot i word c)

-- the object with another content
abbrev new_content : (heap : Heap) (spot : Spot) (i word : ℕ) → Content
new_content heap spot i word = content_of (index_in heap) (marks_at heap.shapes (words_by heap.memory spot) spot.start i) word

abbrev object_with : (heap : Heap) (spot : Spot) (i word : ℕ) → Object
object_with heap spot i word = with_contents (object_by heap spot) (set (object_by heap spot).contents i (new_content heap spot i word))

object_here : (heap : Heap) (spot : Spot) (i word : ℕ) → IsContent heap spot i word → object_by (with_word heap spot i word) spot ≡ object_with heap spot i word
object_here heap spot i word c =
    let memory = (with_word heap spot i word).memory in
    let a = written_alike heap spot i word c in
    alike_object heap memory spot (set (object_by heap spot).contents i (new_content heap spot i word)) a c.here
    (set_tabulated (size_at (words_by heap.memory spot) spot.start) (content_by heap spot) (content_by (with_word heap spot i word) spot) i (new_content heap spot i word) c.below
    (alike_content heap memory spot i word a c.here (word_here heap spot (3 + i) word (content_inner heap spot i word c)))
    (λ j below differs. alike_content heap memory spot j _ a c.here (content_elsewhere heap spot spot i word j c c.here below (λ same. differs))))

-- an entry that is another object's
entry_if : (heap : Heap) (spot : Spot) (i word n : ℕ) (found : Option Spot) → IsContent heap spot i word → n ≢ serial_by heap.memory spot - 1 → spot_where heap.memory (λ other. serial_by heap.memory other == n + 1) ≡ found →
    option_map (object_by (with_word heap spot i word)) found ≡ option_map (object_by heap) found
entry_if heap spot i word n None c differs is = refl
entry_if heap spot i word n (Some other) c differs is =
    let sound = spot_sound heap.memory (λ other. serial_by heap.memory other == n + 1) other is in
    let serial = eqb-true (serial_by heap.memory other) (n + 1) sound.1 in
    ap Some (same_object heap (with_word heap spot i word).memory other (written_alike heap spot i word c) sound.0
    (λ j below. content_elsewhere heap spot other i word j c sound.0 below (λ same. absurd (differs (omega (arith, serial, ap (serial_by heap.memory) same))))))

abbrev entry : Heap → ℕ → Option Object
entry heap n = option_map (object_by heap) (spot_where heap.memory (λ other. serial_by heap.memory other == n + 1))

objects_set : (heap : Heap) (spot : Spot) (i word : ℕ) → IsContent heap spot i word → objects_in (with_word heap spot i word) ≡ set (objects_in heap) (serial_by heap.memory spot - 1) (Some (object_with heap spot i word))
unfolding objects_in
objects_set heap spot i word c =
    let placed = c.is.placed spot c.here in
    let memory = (with_word heap spot i word).memory in
    let a = written_alike heap spot i word c in
    set_tabulated (heap.next - 1) (entry heap) (entry (with_word heap spot i word)) (serial_by heap.memory spot - 1) (Some (object_with heap spot i word)) (omega (arith, placed.low, placed.high))
    (ap (option_map (object_by (with_word heap spot i word))) (alike_entry heap memory (serial_by heap.memory spot - 1) a ∙ by_serial heap spot (serial_by heap.memory spot - 1 + 1) c.is c.here (omega (arith, placed.low)))
    ∙ ap Some (object_here heap spot i word c))
    (λ n below differs.
    ap (option_map (object_by (with_word heap spot i word))) (alike_entry heap memory n a)
    ∙ entry_if heap spot i word n (spot_where heap.memory (λ other. serial_by heap.memory other == n + 1)) c differs refl)

pub put_objects : (heap : Heap) (spot : Spot) (i word : ℕ) → IsContent heap spot i word → objects_in (with_word heap spot i word) ≡ with_content (objects_in heap) (serial_by heap.memory spot) i (new_content heap spot i word)
put_objects heap spot i word c =
    let placed = c.is.placed spot c.here in
    let serial : ℕ = serial_by heap.memory spot in
    let back : serial - 1 + 1 ≡ serial = omega (arith, placed.low) in
    let next : suc (serial - 1) ≡ serial = omega (arith, placed.low) in
    let new : Content = new_content heap spot i word in
    let there : slice_get (objects_in heap) (serial - 1) ≡ Some (Some (object_by heap spot)) =
    entry_at heap (serial - 1) (omega (arith, placed.low, placed.high)) ∙ ap (λ found. Some (option_map (object_by heap) found)) (by_serial heap spot (serial - 1 + 1) c.is c.here (sym back)) in
    objects_set heap spot i word c
    ∙ sym (changed_there (objects_in heap) (serial - 1) (object_by heap spot) (set (object_by heap spot).contents i new) there)
    ∙ ap (λ k. with_contents_in (objects_in heap) k (set (object_by heap spot).contents i new)) next
    ∙ ap (λ contents. with_contents_in (objects_in heap) serial (set contents i new)) (sym (contents_found (objects_in heap) serial (object_by heap spot) (object_found heap spot c.is c.here)))
