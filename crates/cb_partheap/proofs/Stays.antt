-- The words of what is marked are among those that stay in the parts of the set.
use Rattle.std.proofs.Common.{◌≡◌, ◌∙◌, ℕ, ◌+◌, ◌-◌, ◌<◌, ◌≤◌, ◌==◌, ◌||◌, Bool, true, false, not, Option, Some, None, cond, option_map, List, [], ◌∷◌, length, map, nat_lt, refl, sym, ap, arith, subst, inl, inr}
use Rattle.std.specs.List.{range_with_len, sum_by}
use Rattle.std.proofs.lemmas.Bool.{cases_lt, lt-ltb}
use Rattle.std.proofs.lemmas.List.FromFn.{length-map-range_with_len}
use Rattle.std.proofs.lemmas.Option.{none-some, same_Some, slice_get_within}
use Rattle.cb_plain.specs.State.{Object, words_of}
use Rattle.cb_dag.specs.Marks.{marked}
use Rattle.cb_heap.specs.Kept.{entry_words, keep}
use Rattle.cb_heap.specs.Reading.{View}
use Rattle.cb_partheap.specs.Heaps.{Heap, object_by, objects_in, part_of}
use Rattle.cb_partheap.specs.Spots.{IsSpot, Spot, serial_by, words_by}
use Rattle.cb_partheap.specs.Whole.{IsHeap}
use Rattle.cb_partheap.specs.Words.{mark_at}
use Rattle.cb_partheap.proofs.Calls.{object_length}
use Rattle.cb_partheap.proofs.Found.{spot_sound}
use Rattle.cb_partheap.proofs.Reading.{slice_get-tabulated}
use Rattle.cb_partheap.specs.MarkLaws.{words_in_set}
use Rattle.cb_partheap.specs.Marks.{MarksReached, stays_if, staying, words_if_marked, words_marked}
use Rattle.cb_partheap.proofs.Rooms.{sum_by_map}
use Rattle.cb_partheap.proofs.Sums.{LiesBelow, range_times, spread_there, words_there}
use Rattle.cb_partheap.proofs.Weights.{found_of, lies_if, marked_weight, unmarked_weight}

-- what is kept of values that are made of the same places
abbrev pub kept_of : Bool → Option Object → Option Object
kept_of true entry = entry
kept_of false entry = None

keep_first : (stay : Bool) (entry : Option Object) (stays : List Bool) (entries rest : List (Option Object)) → keep stays entries ≡ rest → keep (stay ∷ stays) (entry ∷ entries) ≡ kept_of stay entry ∷ rest
keep_first true entry stays entries rest is = ap (λ rest. entry ∷ rest) is
keep_first false entry stays entries rest is = ap (λ rest. None ∷ rest) is

keep_tabled : (stays : ℕ → Bool) (entry : ℕ → Option Object) (places : List ℕ) → keep (map stays places) (map entry places) ≡ map (λ n. kept_of (stays n) (entry n)) places
keep_tabled stays entry [] = refl
keep_tabled stays entry (n ∷ places) = keep_first (stays n) (entry n) (map stays places) (map entry places) (map (λ n. kept_of (stays n) (entry n)) places) (keep_tabled stays entry places)

abbrev pub left_at : Heap → List Bool → ℕ → Option Object
left_at heap set n = kept_of (stays_if set heap.memory (found_of heap n)) (option_map (object_by heap) (found_of heap n))

pub left_is : (heap : Heap) (set : List Bool) → keep (staying set heap) (objects_in heap) ≡ map (left_at heap set) (range_with_len 0 (heap.next - 1))
unfolding staying objects_in
left_is heap set = keep_tabled (λ n. stays_if set heap.memory (found_of heap n)) (λ n. option_map (object_by heap) (found_of heap n)) (range_with_len 0 (heap.next - 1))

kept_some : (stay : Bool) (entry : Option Object) (object : Object) → kept_of stay entry ≡ Some object → entry ≡ Some object
kept_some true entry object is = is
kept_some false entry object is = absurd (none-some object is)

left_below : (heap : Heap) (set : List Bool) → IsHeap heap → LiesBelow (part_of heap.site_parts) (length heap.memory.words) (map (left_at heap set) (range_with_len 0 (heap.next - 1)))
left_below heap set is k object there =
    let below : k < heap.next - 1 = omega (arith, slice_get_within (map (left_at heap set) (range_with_len 0 (heap.next - 1))) k (Some object) there, length-map-range_with_len (left_at heap set) 0 (heap.next - 1)) in
    let entry : left_at heap set k ≡ Some object = same_Some (left_at heap set k) (Some object) (sym (slice_get-tabulated (heap.next - 1) (left_at heap set) k below) ∙ there) in
    lies_if heap k object (found_of heap k) is refl (kept_some (stays_if set heap.memory (found_of heap k)) (option_map (object_by heap) (found_of heap k)) object entry)

-- a marked object stays, in a part of the set
stays_told : (member some : Bool) → some ≡ true → not member || some ≡ true
stays_told true some is = is
stays_told false some is = refl

marked_there : (heap : Heap) (set : List Bool) (spot : Spot) → IsHeap heap → IsSpot heap.memory spot → marked set spot.part ≡ true → 0 < mark_at (words_by heap.memory spot) spot.start →
    words_there (part_of heap.site_parts) set (kept_of (stays_if set heap.memory (Some spot)) (Some (object_by heap spot))) ≡ words_if_marked heap.memory (Some spot)
marked_there heap set spot is here member some =
    let stay : stays_if set heap.memory (Some spot) ≡ true = stays_told (marked set spot.part) (nat_lt 0 (mark_at (words_by heap.memory spot) spot.start)) (lt-ltb 0 (mark_at (words_by heap.memory spot) spot.start) some) in
    let part : marked set (part_of heap.site_parts (object_by heap spot).site) ≡ true = ap (marked set) (is.placed spot here).here ∙ member in
    ap (λ b. words_there (part_of heap.site_parts) set (kept_of b (Some (object_by heap spot)))) stay ∙ ap (λ b. cond b (entry_words (Some (object_by heap spot))) 0) part ∙ ap words_of (object_length heap spot)
    ∙ sym (marked_weight heap.memory spot some)

weight_there : (heap : Heap) (set : List Bool) (view : View) (n : ℕ) (found : Option Spot) → IsHeap heap → MarksReached set view heap → found_of heap n ≡ found →
    words_if_marked heap.memory found ≤ words_there (part_of heap.site_parts) set (kept_of (stays_if set heap.memory found) (option_map (object_by heap) found))
weight_there heap set view n None is marks found = omega arith
weight_there heap set view n (Some spot) is marks found =
    let here = (spot_sound heap.memory (λ other. serial_by heap.memory other == n + 1) spot found).0 in
    elim (cases_lt 0 (mark_at (words_by heap.memory spot) spot.start)) [
      | inl some ↦ omega (arith, marked_there heap set spot is here ((marks.each spot here).0 some).0 some)
      | inr none ↦ omega (arith, unmarked_weight heap.memory spot (omega (arith, none)))
    ]

term_sum : (heap : Heap) → words_marked heap ≡ sum_by (λ n. words_if_marked heap.memory (found_of heap n)) (range_with_len 0 (heap.next - 1))
unfolding words_marked
term_sum heap = refl

pub marked_words : (heap : Heap) (set : List Bool) (view : View) → IsHeap heap → MarksReached set view heap → words_marked heap ≤ words_in_set heap set (keep (staying set heap) (objects_in heap))
marked_words heap set view is marks =
    let places : List ℕ = range_with_len 0 (heap.next - 1) in
    let kept : List (Option Object) = map (left_at heap set) places in
    let terms = range_times (λ n. words_if_marked heap.memory (found_of heap n)) (λ n. words_there (part_of heap.site_parts) set (left_at heap set n)) 0 (heap.next - 1) 1
    (λ n. omega (arith, weight_there heap set view n (found_of heap n) is marks refl)) in
    let all = spread_there (part_of heap.site_parts) set (length heap.memory.words) kept (left_below heap set is) in
    let bound : words_marked heap ≤ words_in_set heap set kept = omega (arith, term_sum heap, terms, sum_by_map (words_there (part_of heap.site_parts) set) (left_at heap set) places, all) in
    subst (λ objects. words_marked heap ≤ words_in_set heap set objects) (sym (left_is heap set)) bound
