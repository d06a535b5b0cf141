-- What marking leaves.
use Rattle.std.proofs.Common.{◌≡◌, ◌∙◌, ℕ, ◌+◌, ◌≤◌, Bool, List, length, refl, sym, ap, arith, subst}
use Rattle.cb_plain.specs.Reach.{IsReached}
use Rattle.cb_plain.specs.State.{Roots}
use Rattle.cb_frames.specs.Entries.{entries}
use Rattle.cb_heap.specs.Closed.{IsClosed}
use Rattle.cb_heap.specs.Reading.{seen}
use Rattle.cb_blocks.specs.Parted.{Parted}
use Rattle.cb_partheap.specs.Heaps.{Heap, index_in, objects_in, with_memory}
use Rattle.cb_partheap.specs.Spots.{serial_by}
use Rattle.cb_partheap.specs.Stacks.{Stacked}
use Rattle.cb_partheap.specs.Whole.{IsHeap}
use Rattle.cb_partheap.proofs.Laws.{alike_index, alike_objects, spot_alike}
use Rattle.cb_partheap.specs.Marks.{IsClosedSet, IsRemarked, IsUnmarked, MarksReached, words_marked}
use Rattle.cb_trace.specs.Marking.{AllLooked, Begins, Ends, Given, IsGiven, StandsAt}
use Rattle.cb_trace.proofs.Exact.{reached_marked}
use Rattle.cb_trace.proofs.Looking.{stays_looked}
use Rattle.cb_trace.proofs.Steps.{heap_now}

-- a heap with other memory and another stack
abbrev pub with_both : Heap → Parted → Stacked → Heap
with_both heap memory grey =
    record { memory = memory; shapes = heap.shapes; site_parts = heap.site_parts; edges = heap.edges; next = heap.next; granted = heap.granted; grey = grey }

abbrev pub given_by : Heap → Roots → List Bool → Given
given_by heap roots set = record { heap = heap; roots = roots; set = set }

-- what is asked of a heap that is seen so
pub record Asked (now : Heap) (roots : Roots) (set : List Bool) : Type 0 where
  pub set_is : IsClosedSet now set
  pub view : IsClosed (seen (index_in now) (objects_in now) roots)
  pub unmarked : IsUnmarked now

pub asked_of : {heap now : Heap} {roots : Roots} {set : List Bool} → IsHeap heap → heap ≡ now → Asked now roots set → IsGiven (given_by heap roots set)
asked_of {heap} {now} {roots} {set} is same asked =
    let a = subst (λ (h : Heap). Asked h roots set) (sym same) asked in record { heap = is; set = a.set_is; view = a.view; unmarked = a.unmarked }

pub begins_with : {heap now : Heap} {roots : Roots} {set : List Bool} → IsHeap heap → heap ≡ now → Asked now roots set → Begins (given_by heap roots set) heap.memory heap.grey roots set
begins_with is same asked = record { given_is = asked_of is same asked; memory_is = refl; grey_is = refl; roots_are = refl; set_is = refl }

pub record Outcome (now new : Heap) (roots : Roots) (set : List Bool) (steps steps' : ℕ) : Type 0 where
  pub heap_is : IsHeap new
  pub marked_are : MarksReached set (seen (index_in now) (objects_in now) roots) new
  pub rest : IsRemarked set now new
  pub kept : objects_in new ≡ objects_in now
  pub places : index_in new ≡ index_in now
  pub steps_are : steps' ≤ steps + length (entries roots) + words_marked new

outcome : (heap : Heap) (roots : Roots) (set : List Bool) (mid memory : Parted) (grey : Stacked) (steps between steps' : ℕ) → AllLooked (given_by heap roots set) mid (entries roots) → between ≡ steps + length (entries roots) →
    Ends (given_by heap roots set) mid memory grey set between steps' → Outcome heap (with_memory heap memory) roots set steps steps'
outcome heap roots set mid memory grey steps between steps' looked counted ends =
    let given : Given = given_by heap roots set in
    let m = ends.stands.is in
    let all : AllLooked given memory (entries roots) = λ i to is. stays_looked to ends.stays (looked i to is) in
    record {
      heap_is = heap_now m;
      marked_are = record {
        each = λ spot there.
            let here = spot_alike heap.memory memory spot m.alike there in
            let serial : serial_by memory spot ≡ serial_by heap.memory spot = (m.alike.header spot here).second in (
              λ some. let both = m.only spot here some in (both.0, subst (λ n. IsReached (seen (index_in heap) (objects_in heap) roots).roots (objects_in heap) n) (sym serial) both.1),
              λ both.
                  reached_marked given memory (words_marked (with_memory heap memory)) m all (serial_by heap.memory spot) (subst (λ n. IsReached (seen (index_in heap) (objects_in heap) roots).roots (objects_in heap) n) serial both.1)
                  spot here refl both.0,
            );
      };
      rest = record { memory = m.same; rest = refl };
      kept = alike_objects heap memory m.alike m.contents;
      places = alike_index heap memory m.alike;
      steps_are = omega (arith, ends.counted, counted);
    }

pub ended : {heap now : Heap} {roots : Roots} {set : List Bool} (mid memory : Parted) (grey : Stacked) (steps between steps' : ℕ) → IsHeap heap → heap ≡ now → AllLooked (given_by heap roots set) mid (entries roots) → between ≡ steps + length (entries roots) →
    Ends (given_by heap roots set) mid memory grey set between steps' → Outcome now (with_both heap memory grey) roots set steps steps'
ended {heap} {now} {roots} {set} mid memory grey steps between steps' is same looked counted ends =
    let stack : grey ≡ heap.grey =
    ap (λ places. let s : Stacked = record { places = places; room = grey.room } in s) (ends.none ∙ sym is.idle) ∙ ap (λ room. let s : Stacked = record { places = heap.grey.places; room = room } in s) ends.stands.room in
    subst (λ (h : Heap). Outcome h (with_both heap memory grey) roots set steps steps') same
    (subst (λ (g : Stacked). Outcome heap (with_both heap memory g) roots set steps steps') (sym stack) (outcome heap roots set mid memory grey steps between steps' looked counted ends))

-- after the roots, and what is behind them
pub all_marked : {heap now : Heap} {roots : Roots} {set : List Bool} (mid memory : Parted) (waiting grey : Stacked) (steps between steps' : ℕ) → IsHeap heap → heap ≡ now → IsClosedSet now set → IsClosed (seen (index_in now) (objects_in now) roots) → IsUnmarked now →
    ((given : Given) → Begins given heap.memory heap.grey roots set → StandsAt given mid waiting set waiting.places 0 × AllLooked given mid (entries roots)) → between ≡ steps + length (entries roots) →
    ((given : Given) → StandsAt given mid waiting set waiting.places 0 → heap.shapes ≡ given.heap.shapes → Ends given mid memory grey set between steps') → Outcome now (with_both heap memory grey) roots set steps steps'
all_marked {heap} {now} {roots} {set} mid memory waiting grey steps between steps' is same closed_set closed unmarked looks counted ends =
    let given : Given = given_by heap roots set in
    let first = looks given (begins_with is same (record { set_is = closed_set; view = closed; unmarked = unmarked })) in
    ended mid memory grey steps between steps' is same first.1 counted (ends given first.0 refl)
