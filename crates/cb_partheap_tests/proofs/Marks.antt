-- An object with another mark.
use Rattle.std.proofs.Common.{◌≡◌, ◌∙◌, ℕ, ◌+◌, ◌*◌, ◌^◌, IsTrue, set, sym, ap, arith, subst}
use Rattle.cb_heap.specs.Kept.{is_kept}
use Rattle.cb_heap.specs.Reading.{serial_of}
use Rattle.cb_blocks.specs.Parted.{Parted, with_words}
use Rattle.cb_partheap.specs.Headers.{IsHeader}
use Rattle.cb_partheap.specs.Heaps.{Heap, index_in, objects_in, with_memory}
use Rattle.cb_partheap.specs.Spots.{Spot, words_by}
use Rattle.cb_partheap.specs.Whole.{IsHeap}
use Rattle.cb_partheap.specs.Words.{site_at}
use Rattle.cb_partheap.proofs.Laws.{Found, HasContents, IsAlike, alike_heap, alike_index, alike_objects, found, header_found, marked_alike, marked_contents, still_refers, with_third}

there : {heap now : Heap} (at : ℕ) → IsHeap heap → heap ≡ now → IsTrue (is_kept (objects_in now) (serial_of (index_in now) at)) → Found heap at
there {heap} {now} at is same kept = found heap at is (subst (λ (h : Heap). IsTrue (is_kept (objects_in h) (serial_of (index_in h) at))) (sym same) kept)

pub header : {heap now : Heap} (at : ℕ) → IsHeap heap → heap ≡ now → IsTrue (is_kept (objects_in now) (serial_of (index_in now) at)) → (spot : Spot) × IsHeader heap.memory at spot
header {heap} {now} at is same kept = let here = there at is same kept in (here.spot, header_found heap at is here)

pub record Marking (heap now : Heap) (memory : Parted) : Type 0 where
  pub heap_is : IsHeap (with_memory heap memory)
  pub objects : objects_in (with_memory heap memory) ≡ objects_in now
  pub index : index_in (with_memory heap memory) ≡ index_in now

pub marking : {heap now : Heap} (at mark : ℕ) (memory : Parted) → IsHeap heap → heap ≡ now → IsTrue (is_kept (objects_in now) (serial_of (index_in now) at)) →
    ((spot : Spot) → IsHeader heap.memory at spot → memory ≡ with_words heap.memory spot.part (set (words_by heap.memory spot) (spot.start + 2) (site_at (words_by heap.memory spot) spot.start + mark * 2 ^ 14))) → Marking heap now memory
marking {heap} {now} at mark memory is same kept writes =
    let here = there at is same kept in
    let spot : Spot = here.spot in
    let word : ℕ = site_at (words_by heap.memory spot) spot.start + mark * 2 ^ 14 in
    let new : with_third heap.memory spot word ≡ memory = sym (writes spot (header_found heap at is here)) in
    let alike : IsAlike heap.memory memory = subst (IsAlike heap.memory) new (marked_alike heap spot word is here.is (omega arith)) in
    let contents = subst (HasContents heap.memory) new (marked_contents heap spot word is here.is) in
    record {
      heap_is = alike_heap heap memory is alike (still_refers heap memory is contents);
      objects = alike_objects heap memory alike contents ∙ ap objects_in same;
      index = alike_index heap memory alike ∙ ap index_in same;
    }
