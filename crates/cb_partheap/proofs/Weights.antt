-- The words of marked objects, and how many words there are in all.
use Rattle.std.proofs.Common.{◌≡◌, ◌≢◌, ◌∙◌, ℕ, ◌+◌, ◌-◌, ◌*◌, ◌/◌, ◌^◌, ◌<◌, ◌≤◌, ◌==◌, Option, Some, None, cond, option_map, length, get_or, nat_lt, refl, sym, ap, arith, subst, inl, inr}
use Rattle.std.specs.List.{range_with_len, sum_by}
use Rattle.std.proofs.lemmas.Bool.{cases_lt, eqb-true, le-ltb, lt-ltb}
use Rattle.std.proofs.lemmas.Option.{none-some, same_Some, slice_get_within}
use Rattle.cb_plain.specs.State.{Object, words_of}
use Rattle.cb_heap.specs.Kept.{entry_words}
use Rattle.cb_heap.specs.Occupancy.{blocks_of, used, wanted}
use Rattle.cb_blocks.specs.Parted.{Parted}
use Rattle.cb_blocks.specs.Rows.{row}
use Rattle.cb_partheap.specs.Heaps.{Heap, object_by, objects_in, part_of, with_memory}
use Rattle.cb_partheap.specs.Spots.{IsSpot, Spot, serial_by, spot_where, words_by}
use Rattle.cb_partheap.specs.Whole.{IsHeap}
use Rattle.cb_partheap.specs.Words.{mark_at, site_at, size_at}
use Rattle.cb_partheap.proofs.Alike.{IsAlike, alike_entry}
use Rattle.cb_partheap.proofs.Calls.{object_length}
use Rattle.cb_partheap.proofs.Found.{spot_sound}
use Rattle.cb_partheap.proofs.Marked.{mark_elsewhere, with_third}
use Rattle.cb_partheap.proofs.Occupied.{used_is}
use Rattle.cb_partheap.proofs.Reading.{by_serial, entry_at, length_objects}
use Rattle.cb_partheap.specs.Marks.{IsUnmarked, words_if_marked, words_marked}
use Rattle.cb_partheap.proofs.Rooms.{range_more, range_same, sum_by_map}
use Rattle.cb_partheap.proofs.Sums.{LiesBelow, range_none, range_term, range_times, spread}

abbrev pub found_of : Heap → ℕ → Option Spot
found_of heap n = spot_where heap.memory (λ spot. serial_by heap.memory spot == n + 1)

-- ---- an object more that is marked

abbrev term : Heap → ℕ → ℕ
term heap n = words_if_marked heap.memory (found_of heap n)

pub unmarked_weight : (parts : Parted) (spot : Spot) → mark_at (words_by parts spot) spot.start ≡ 0 → words_if_marked parts (Some spot) ≡ 0
unmarked_weight parts spot none = ap (λ b. cond b (words_of (size_at (words_by parts spot) spot.start)) 0) (le-ltb 0 (mark_at (words_by parts spot) spot.start) (omega (arith, none)))

pub marked_weight : (parts : Parted) (spot : Spot) → 0 < mark_at (words_by parts spot) spot.start → words_if_marked parts (Some spot) ≡ words_of (size_at (words_by parts spot) spot.start)
marked_weight parts spot some = ap (λ b. cond b (words_of (size_at (words_by parts spot) spot.start)) 0) (lt-ltb 0 (mark_at (words_by parts spot) spot.start) some)

-- a mark that one object gets
pub record IsNewMark (heap : Heap) (spot : Spot) (word : ℕ) : Type 0 where
  pub is : IsHeap heap
  pub here : IsSpot heap.memory spot
  pub unmarked : mark_at (words_by heap.memory spot) spot.start ≡ 0
  pub now : 0 < mark_at (words_by (with_third heap.memory spot word) spot) spot.start
  pub alike : IsAlike heap.memory (with_third heap.memory spot word)

other_if : (heap : Heap) (spot : Spot) (word n : ℕ) (found : Option Spot) → IsNewMark heap spot word → n ≢ serial_by heap.memory spot - 1 → found_of heap n ≡ found →
    words_if_marked (with_third heap.memory spot word) found ≡ words_if_marked heap.memory found
other_if heap spot word n None c differs is = refl
other_if heap spot word n (Some other) c differs is =
    let sound = spot_sound heap.memory (λ other. serial_by heap.memory other == n + 1) other is in
    let serial = eqb-true (serial_by heap.memory other) (n + 1) sound.1 in
    let apart : other ≡ spot → ⊥ = λ same. differs (omega (arith, serial, ap (serial_by heap.memory) same)) in
    let weigh : ℕ → ℕ → ℕ = λ mark word. cond (nat_lt 0 mark) (words_of (word / 2 ^ 32)) 0 in
    ap (λ mark. weigh mark (get_or (words_by (with_third heap.memory spot word) other) other.start 0)) (mark_elsewhere heap spot other word c.is c.here sound.0 apart)
    ∙ ap (weigh (mark_at (words_by heap.memory other) other.start)) (c.alike.header other sound.0).first

pub marked_more : (heap : Heap) (spot : Spot) (word : ℕ) → IsNewMark heap spot word →
    words_marked (with_memory heap (with_third heap.memory spot word)) ≡ words_marked heap + words_of (size_at (words_by heap.memory spot) spot.start)
unfolding words_marked
marked_more heap spot word c =
    let placed = c.is.placed spot c.here in
    let memory = with_third heap.memory spot word in
    let size : ℕ = words_of (size_at (words_by heap.memory spot) spot.start) in
    let at : ℕ = serial_by heap.memory spot - 1 in
    let found = by_serial heap spot (at + 1) c.is c.here (omega (arith, placed.low)) in
    let was : term heap at ≡ 0 = ap (words_if_marked heap.memory) found ∙ unmarked_weight heap.memory spot c.unmarked in
    let now : term (with_memory heap memory) at ≡ size =
    ap (words_if_marked memory) (alike_entry heap memory at c.alike ∙ found) ∙ marked_weight memory spot c.now ∙ ap (λ w. words_of (w / 2 ^ 32)) (c.alike.header spot c.here).first in
    range_more (term heap) (term (with_memory heap memory)) 0 (heap.next - 1) at size (omega arith) (omega (arith, placed.low, placed.high))
    (λ n differs. ap (words_if_marked memory) (alike_entry heap memory n c.alike) ∙ other_if heap spot word n (found_of heap n) c differs refl) (omega (arith, was, now))

-- ---- none is marked

none_if : (heap : Heap) (n : ℕ) (found : Option Spot) → IsUnmarked heap → found_of heap n ≡ found → words_if_marked heap.memory found ≡ 0
none_if heap n None none is = refl
none_if heap n (Some spot) none is = unmarked_weight heap.memory spot (none.each spot (spot_sound heap.memory (λ other. serial_by heap.memory other == n + 1) spot is).0)

pub none_marked : (heap : Heap) → IsUnmarked heap → words_marked heap ≡ 0
unfolding words_marked
none_marked heap none = range_none (term heap) 0 (heap.next - 1) (λ n. none_if heap n (found_of heap n) none refl)

-- ---- all words have room in the blocks

pub lies_if : (heap : Heap) (n : ℕ) (object : Object) (found : Option Spot) → IsHeap heap → found_of heap n ≡ found → option_map (object_by heap) found ≡ Some object → part_of heap.site_parts object.site < length heap.memory.words
lies_if heap n object None is found entry = absurd (none-some object entry)
lies_if heap n object (Some spot) is found entry =
    let here = (spot_sound heap.memory (λ other. serial_by heap.memory other == n + 1) spot found).0 in
    subst (λ (o : Object). part_of heap.site_parts o.site < length heap.memory.words) (same_Some (object_by heap spot) object entry) (is.site_within (site_at (words_by heap.memory spot) spot.start) (is.placed spot here).site)

lies_below : (heap : Heap) → IsHeap heap → LiesBelow (part_of heap.site_parts) (length heap.memory.words) (objects_in heap)
lies_below heap is k object there =
    let below : k < heap.next - 1 = omega (arith, slice_get_within (objects_in heap) k (Some object) there, length_objects heap) in
    lies_if heap k object (found_of heap k) is refl (same_Some (option_map (object_by heap) (found_of heap k)) (Some object) (sym (entry_at heap k below) ∙ there))

weight_if : (heap : Heap) (found : Option Spot) → words_if_marked heap.memory found ≤ entry_words (option_map (object_by heap) found)
weight_if heap None = omega arith
weight_if heap (Some spot) =
    let size = object_length heap spot in
    elim (cases_lt 0 (mark_at (words_by heap.memory spot) spot.start)) [
      | inl some ↦ omega (arith, marked_weight heap.memory spot some, size)
      | inr none ↦ omega (arith, unmarked_weight heap.memory spot (omega (arith, none)))
    ]

marked_objects : (heap : Heap) → words_marked heap ≤ sum_by entry_words (objects_in heap)
unfolding words_marked objects_in
marked_objects heap =
    omega (
      arith,
      range_times (term heap) (λ n. entry_words (option_map (object_by heap) (found_of heap n))) 0 (heap.next - 1) 1 (λ n. omega (arith, weight_if heap (found_of heap n))),
      sum_by_map entry_words (λ n. option_map (object_by heap) (found_of heap n)) (range_with_len 0 (heap.next - 1)),
    )

pub words_room : (heap : Heap) → IsHeap heap → words_marked heap ≤ 256 * heap.memory.blocks
words_room heap is =
    let parts : ℕ = length heap.memory.words in
    let rows : ℕ → ℕ = λ part. length (row heap.memory.words part) in
    let all : ℕ → ℕ = λ part. rows part + wanted (part_of heap.site_parts) heap.granted part in
    let objects = spread (part_of heap.site_parts) parts (objects_in heap) (lies_below heap is) in
    let parts_are : sum_by (used (part_of heap.site_parts) (objects_in heap)) (range_with_len 0 parts) ≡ sum_by rows (range_with_len 0 parts) =
    range_same rows (used (part_of heap.site_parts) (objects_in heap)) 0 parts (λ part low high. used_is heap part is (omega (arith, high))) in
    let blocks : sum_by rows (range_with_len 0 parts) ≤ 256 * sum_by (λ part. blocks_of (all part)) (range_with_len 0 parts) =
    range_times rows (λ part. blocks_of (all part)) 0 parts 256 (λ part. omega arith) in
    omega (arith, marked_objects heap, objects, parts_are, blocks, is.room)

-- and those of a part have
pub part_room : (heap : Heap) (part : ℕ) → IsHeap heap → part < length heap.memory.words → length (row heap.memory.words part) ≤ 256 * heap.memory.blocks
part_room heap part is below =
    let parts : ℕ = length heap.memory.words in
    let rows : ℕ → ℕ = λ part. length (row heap.memory.words part) in
    let all : ℕ → ℕ = λ part. rows part + wanted (part_of heap.site_parts) heap.granted part in
    let blocks : sum_by rows (range_with_len 0 parts) ≤ 256 * sum_by (λ part. blocks_of (all part)) (range_with_len 0 parts) =
    range_times rows (λ part. blocks_of (all part)) 0 parts 256 (λ part. omega arith) in
    omega (arith, range_term rows 0 parts part (omega arith) (omega (arith, below)), blocks, is.room)
