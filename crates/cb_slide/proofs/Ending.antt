-- What sliding leaves.
use Rattle.std.proofs.Common.{◌≡◌, ◌∙◌, ℕ, ◌+◌, ◌*◌, ◌≤◌, false, Bool, List, length, map, refl, sym, ap, arith, subst}
use Rattle.cb_plain.specs.State.{Roots}
use Rattle.cb_frames.specs.Entries.{entries, without_references}
use Rattle.cb_heap.specs.Closed.{Collects, IsClosed}
use Rattle.cb_heap.specs.Kept.{keep}
use Rattle.cb_heap.specs.Reading.{View, read_roots, seen}
use Rattle.cb_heap.specs.Taking.{IsTaken, left_of}
use Rattle.cb_heap.proofs.Laws.{takes_collect}
use Rattle.cb_dag.specs.Marks.{marked}
use Rattle.cb_blocks.specs.Parted.{Parted}
use Rattle.cb_blocks.specs.Rows.{row}
use Rattle.cb_partheap.specs.Heaps.{Heap, index_in, objects_in, settings_in, with_memory}
use Rattle.cb_partheap.specs.MarkLaws.{sites_of, words_in_set}
use Rattle.cb_partheap.specs.Marks.{IsClosedSet, IsUnmarked, MarksReached, staying}
use Rattle.cb_partheap.specs.Spots.{IsSpot, Spot}
use Rattle.cb_partheap.specs.Whole.{IsHeap}
use Rattle.cb_partheap.proofs.Laws.{follows, predecessors, taken, view_in}
use Rattle.cb_slide.specs.Slid.{place_after}
use Rattle.cb_slide.specs.Sliding.{ForwardedTo, Given, HasOtherWords, IsForwarded, IsGiven, IsLeft, IsRewritten, RewrittenTo, SlidTo, words_before}
use Rattle.cb_slide.proofs.Compacts.{compacted}
use Rattle.cb_slide.proofs.Forwards.{forwarded}
use Rattle.cb_slide.proofs.NewHeap.{left_after, new_heap, objects_after, unmarked_after}
use Rattle.cb_slide.proofs.Rewriting.{rewrite_begins, rewritten}
use Rattle.cb_slide.proofs.Roots.{roots_after, words_all}

abbrev pub given_by : Heap → Roots → List Bool → Given
given_by heap roots set = record { heap = heap; roots = roots; set = set }

-- what is asked of a heap that is seen so
pub record Asked (now : Heap) (roots : Roots) (set : List Bool) : Type 0 where
  pub set_is : IsClosedSet now set
  pub view : IsClosed (seen (index_in now) (objects_in now) roots)
  pub marks : MarksReached set (seen (index_in now) (objects_in now) roots) now

pub given_of : {heap now : Heap} {roots : Roots} {set : List Bool} → IsHeap heap → heap ≡ now → Asked now roots set → IsGiven (given_by heap roots set)
given_of {heap} {now} {roots} {set} is same asked =
    let a = subst (λ (h : Heap). Asked h roots set) (sym same) asked in record { heap = is; set = a.set_is; view = a.view; marks = a.marks }

-- where each pass begins
module _ {heap : Heap} {roots : Roots} {set : List Bool} (g : IsGiven (given_by heap roots set)) where
  all_in : length heap.memory.words ≤ length set
  all_in = omega (arith, g.set.parts)

  pub forwarded_all : {memory : Parted} → ForwardedTo (given_by heap roots set) memory (length set) 0 → IsForwarded (given_by heap roots set) memory
  forwarded_all f = forwarded (length set) f all_in

  pub rewrites_from : {memory : Parted} → ForwardedTo (given_by heap roots set) memory (length set) 0 → RewrittenTo (given_by heap roots set) memory 0 0
  rewrites_from f = rewrite_begins (forwarded_all f) f.contents

  pub rewritten_all : {memory : Parted} → RewrittenTo (given_by heap roots set) memory (length set) 0 → IsRewritten (given_by heap roots set) memory
  rewritten_all r = rewritten (length set) r all_in

pub record Outcome (now new : Heap) (roots roots' : Roots) (set : List Bool) (steps steps' : ℕ) : Type 0 where
  pub heap_is : IsHeap new
  pub taken_is : IsTaken (sites_of now set) (seen (index_in now) (objects_in now) roots) (staying set now)
  pub collects_is : Collects (view_in now roots) (seen (index_in new) (objects_in new) roots')
  pub objects_are : objects_in new ≡ keep (staying set now) (objects_in now)
  pub roots_are : read_roots (index_in new) roots' ≡ read_roots (index_in now) roots
  pub unmarked : IsUnmarked new
  pub outside : (part : ℕ) → marked set part ≡ false → row new.memory.words part ≡ row now.memory.words part
  pub places : (spot : Spot) → IsSpot now.memory spot → marked set spot.part ≡ false → IsLeft now new spot
  pub rest_is : HasOtherWords now new
  pub steps_are : steps' ≤ steps + length (entries roots) + 2 * words_in_set now set (objects_in now)

outcome : {heap : Heap} {roots : Roots} {set : List Bool} (roots' : Roots) (rewritten memory : Parted) (steps after_roots after_set steps' : ℕ) → IsGiven (given_by heap roots set) →
    without_references roots' ≡ without_references roots → entries roots' ≡ map (place_after set heap.memory) (entries roots) → after_roots ≡ steps + length (entries roots) →
    after_set ≤ after_roots + words_before (given_by heap roots set) (length set) → SlidTo (given_by heap roots set) rewritten memory (length set) → steps' ≤ after_set + words_before (given_by heap roots set) (length set) →
    Outcome heap (with_memory heap memory) roots roots' set steps steps'
outcome {heap} {roots} {set} roots' rewritten memory steps after_roots after_set steps' g same are counted counted' s counted'' =
    let given : Given = given_by heap roots set in
    let slid = compacted (length set) s (omega (arith, g.set.parts)) in
    let new : Heap = with_memory heap memory in
    let takes = taken heap set (view_in heap roots) g.heap refl g.marks in
    let objects = objects_after given memory g slid in
    let reads = roots_after given memory roots' g slid same are in
    let left : seen (index_in new) (objects_in new) roots' ≡ left_of (view_in heap roots) (staying set heap) =
    ap (λ held. let v : View = record { roots = held; objects = objects_in new } in v) reads
    ∙ ap (λ held. let v : View = record { roots = read_roots (index_in heap) roots; objects = held } in v) objects in
    record {
      heap_is = new_heap given memory g slid;
      taken_is = takes;
      collects_is =
          subst (Collects (view_in heap roots)) (sym left)
          (takes_collect (settings_in heap).allows (sites_of heap set) (view_in heap roots) (staying set heap) g.view (follows heap g.heap) (predecessors heap set g.set) takes).0;
      objects_are = objects;
      roots_are = reads;
      unmarked = unmarked_after given memory g slid;
      outside = slid.outside;
      places = λ spot here out. left_after given memory g slid spot here out;
      rest_is = record { blocks = slid.blocks; parts = slid.count; rest = refl };
      steps_are = omega (arith, counted, counted', counted'', words_all given (length set) g g.set.parts);
    }

pub all_slid : {heap now : Heap} {roots : Roots} {set : List Bool} (roots' : Roots) (rewritten memory : Parted) (steps after_roots after_set steps' : ℕ) → IsHeap heap → heap ≡ now → Asked now roots set → without_references roots' ≡ without_references roots →
    (IsGiven (given_by heap roots set) → entries roots' ≡ map (place_after set heap.memory) (entries roots)) → after_roots ≡ steps + length (entries roots) →
    (IsGiven (given_by heap roots set) → RewrittenTo (given_by heap roots set) rewritten (length set) 0 × (after_set ≤ after_roots + words_before (given_by heap roots set) (length set))) →
    (IsGiven (given_by heap roots set) → SlidTo (given_by heap roots set) rewritten memory (length set) × (steps' ≤ after_set + words_before (given_by heap roots set) (length set))) → Outcome now (with_memory heap memory) roots roots' set steps steps'
all_slid {heap} {now} {roots} {set} roots' rewritten memory steps after_roots after_set steps' is same asked bare are counted second third =
    let g = given_of is same asked in
    subst (λ (h : Heap). Outcome h (with_memory heap memory) roots roots' set steps steps') same
    (outcome roots' rewritten memory steps after_roots after_set steps' g bare (are g) counted (second g).1 (third g).0 (third g).1)
