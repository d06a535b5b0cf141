-- What stays by the marks is what a take leaves.
use Rattle.std.proofs.Common.{◌≡◌, ◌∙◌, ℕ, ◌+◌, ◌-◌, ◌<◌, ◌==◌, ◌||◌, Bool, true, false, not, Option, Some, None, option_map, List, length, nat_lt, slice_get, refl, sym, ap, arith, subst, inl, inr, ◌⊎◌, suc}
use Rattle.std.proofs.lemmas.Bool.{eqb-true, false≢true, lt-ltb, ltb-true, or_cases}
use Rattle.std.proofs.lemmas.List.FromFn.{length-map-range_with_len}
use Rattle.std.proofs.lemmas.Option.{none-some, same_Some, slice_get_within}
use Rattle.cb_plain.specs.Reach.{IsReached}
use Rattle.cb_plain.specs.State.{Object}
use Rattle.cb_heap.specs.Follows.{TakesPredecessors}
use Rattle.cb_heap.specs.Reading.{View}
use Rattle.cb_heap.specs.Taking.{IsTaken}
use Rattle.cb_dag.specs.Graphs.{has_edge}
use Rattle.cb_dag.specs.Marks.{marked}
use Rattle.cb_partheap.specs.Heaps.{Heap, object_by, objects_in, part_of, settings_in}
use Rattle.cb_partheap.specs.Spots.{IsSpot, Spot, serial_by, words_by}
use Rattle.cb_partheap.specs.Whole.{IsHeap}
use Rattle.cb_partheap.specs.Words.{mark_at, site_at}
use Rattle.cb_partheap.proofs.Found.{spot_sound}
use Rattle.cb_partheap.proofs.Reading.{entry_at, length_objects, slice_get-tabulated}
use Rattle.cb_partheap.specs.MarkLaws.{MarksTake, sites_of}
use Rattle.cb_partheap.specs.Marks.{IsClosedSet, MarksReached, stays_if, staying}
use Rattle.cb_partheap.proofs.Stays.{marked_words}
use Rattle.cb_partheap.proofs.Weights.{found_of}

pub predecessors : (heap : Heap) (set : List Bool) → IsClosedSet heap set → TakesPredecessors (settings_in heap).allows (sites_of heap set)
predecessors heap set closed = record {
  each = λ one other allowed taken. elim (or_cases (part_of heap.site_parts one == part_of heap.site_parts other) (has_edge heap.edges (part_of heap.site_parts one) (part_of heap.site_parts other)) allowed) [
    | inl same ↦ ap (marked set) (eqb-true (part_of heap.site_parts one) (part_of heap.site_parts other) same) ∙ taken
    | inr edge ↦ closed.closed (part_of heap.site_parts one) (part_of heap.site_parts other) edge taken
  ];
}

-- what stays by its serial
length_staying : (set : List Bool) (heap : Heap) → length (staying set heap) ≡ heap.next - 1
unfolding staying
length_staying set heap = length-map-range_with_len (λ n. stays_if set heap.memory (found_of heap n)) 0 (heap.next - 1)

staying_at : (set : List Bool) (heap : Heap) (n : ℕ) → n < heap.next - 1 → slice_get (staying set heap) n ≡ Some (stays_if set heap.memory (found_of heap n))
unfolding staying
staying_at set heap n below = slice_get-tabulated (heap.next - 1) (λ n. stays_if set heap.memory (found_of heap n)) n below

-- an object that is there
record Stood (heap : Heap) (n : ℕ) (object : Object) : Type 0 where
  pub spot : Spot
  pub found : found_of heap n ≡ Some spot
  pub here : IsSpot heap.memory spot
  pub serial : serial_by heap.memory spot ≡ suc n
  pub site : object.site ≡ site_at (words_by heap.memory spot) spot.start

stood_if : (heap : Heap) (n : ℕ) (object : Object) (found : Option Spot) → found_of heap n ≡ found → option_map (object_by heap) found ≡ Some object → Stood heap n object
stood_if heap n object None is entry = absurd (none-some object entry)
stood_if heap n object (Some spot) is entry =
    let sound = spot_sound heap.memory (λ other. serial_by heap.memory other == n + 1) spot is in
    record {
      spot = spot;
      found = is;
      here = sound.0;
      serial = (let e : serial_by heap.memory spot ≡ suc n = omega (arith, eqb-true (serial_by heap.memory spot) (n + 1) sound.1) in e);
      site = ap (λ (o : Object). o.site) (sym (same_Some (object_by heap spot) object entry));
    }

entry_is : (heap : Heap) (n : ℕ) (entry : Option Object) → slice_get (objects_in heap) n ≡ Some entry → (n < heap.next - 1) × (option_map (object_by heap) (found_of heap n) ≡ entry)
entry_is heap n entry there =
    let below : n < heap.next - 1 = omega (arith, slice_get_within (objects_in heap) n entry there, length_objects heap) in
    (below, same_Some (option_map (object_by heap) (found_of heap n)) entry (sym (entry_at heap n below) ∙ there))

gone_if : (heap : Heap) (set : List Bool) (n : ℕ) (found : Option Spot) → found_of heap n ≡ found → option_map (object_by heap) found ≡ None → stays_if set heap.memory found ≡ false
gone_if heap set n None is none = refl
gone_if heap set n (Some spot) is none = absurd (none-some (object_by heap spot) (sym none))

-- the test of one that is there
test_true : (member some : Bool) → not member || some ≡ true → (member ≡ false) ⊎ (some ≡ true)
test_true false some is = inl refl
test_true true some is = inr is

true_test : (member some : Bool) → (member ≡ false) ⊎ (some ≡ true) → not member || some ≡ true
true_test false some is = refl
true_test true some is = elim is [ inl outside ↦ absurd (false≢true (sym outside)) | inr told ↦ told ]

pub taken : (heap : Heap) (set : List Bool) (view : View) → IsHeap heap → view.objects ≡ objects_in heap → MarksReached set view heap → IsTaken (sites_of heap set) view (staying set heap)
taken heap set view is same marks = record {
  count = length_staying set heap ∙ sym (ap length same ∙ length_objects heap);
  stays = λ n object there.
      let entry = entry_is heap n (Some object) (subst (λ objects. slice_get objects n ≡ Some (Some object)) same there) in
      let at = stood_if heap n object (found_of heap n) refl entry.1 in
      let member : Bool = marked set at.spot.part in
      let some : Bool = nat_lt 0 (mark_at (words_by heap.memory at.spot) at.spot.start) in
      let part : sites_of heap set object.site ≡ member = ap (sites_of heap set) at.site ∙ ap (marked set) (is.placed at.spot at.here).here in
      let test : slice_get (staying set heap) n ≡ Some (not member || some) = staying_at set heap n entry.0 ∙ ap (λ found. Some (stays_if set heap.memory found)) at.found in
      let reach = marks.each at.spot at.here in (
        λ stays. elim (test_true member some (same_Some (not member || some) true (sym test ∙ stays))) [
          | inl outside ↦ inl (part ∙ outside)
          | inr told ↦ inr (subst (IsReached view.roots view.objects) at.serial (reach.0 (ltb-true 0 (mark_at (words_by heap.memory at.spot) at.spot.start) told)).1)
        ],
        λ why. test ∙ ap Some (true_test member some (elim why [
          | inl outside ↦ inl (sym part ∙ outside)
          | inr reached ↦ elim member as (λ m. marked set at.spot.part ≡ m → (m ≡ false) ⊎ (some ≡ true)) [
            | true ↦ λ told. inr (lt-ltb 0 (mark_at (words_by heap.memory at.spot) at.spot.start) (reach.1 (told, subst (IsReached view.roots view.objects) (sym at.serial) reached)))
            | false ↦ λ outside. inl refl
          ] refl
        ])),
      );
  gone = λ n there.
      let entry = entry_is heap n None (subst (λ objects. slice_get objects n ≡ Some None) same there) in
      staying_at set heap n entry.0 ∙ ap Some (gone_if heap set n (found_of heap n) refl entry.1);
}

pub marks_take : MarksTake
marks_take = record { predecessors = predecessors; taken = taken; words = marked_words }
