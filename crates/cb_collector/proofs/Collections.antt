-- A collection as it is counted, and the set of all parts.
use Rattle.std.proofs.Common.{◌≡◌, ◌∙◌, ℕ, ◌-◌, ◌<◌, ◌⊎◌, Bool, true, false, List, [], ◌∷◌, Option, Ok, length, replicate, get_or, refl, sym, ap, arith, subst, inl, inr}
use Rattle.std.proofs.lemmas.Bool.{cases_lt, false≢true}
use Rattle.std.proofs.lemmas.List.{get_or-replicate, get_or_past, length-replicate}
use Rattle.cb_plain.specs.State.{Object, Roots}
use Rattle.cb_plain.specs.declared.facts.Facts.{Facts}
use Rattle.cb_plain.specs.declared.want.Want.{Want}
use Rattle.cb_io.specs.Faults.{CountsFaults}
use Rattle.cb_dag.specs.Graphs.{has_edge}
use Rattle.cb_dag.specs.Parts.{AreWithin, Condensed}
use Rattle.cb_partheap.specs.Heaps.{Heap, objects_in, with_granted}
use Rattle.cb_partheap.specs.Made.{IsGridOf}
use Rattle.cb_partheap.specs.Marks.{IsClosedSet, IsUnmarked}
use Rattle.cb_slide.specs.Collected.{IsCollected}
use Rattle.cb_slide.specs.Sliding.{HasOtherWords}
use Rattle.cb_collector.specs.Collecting.{Collected, facts_behind, tally_behind, words_in}
use Rattle.cb_collector.specs.Held.{Held, IsCollecting, IsReady, KnowsParts, asked_behind, config_in, counted_for, granted_to, standing_in, used_by}
use Rattle.cb_collector.specs.Known.{Config, counted}
use Rattle.cb_collector.specs.Policy.{TakesAll}
use Rattle.cb_collector.specs.declared.tally.Tally.{Tally}

-- what never changes is the same after a collection
pub config_same : (graph : Condensed) (old new : Heap) → HasOtherWords old new → config_in new graph ≡ config_in old graph
config_same graph old new other =
    let sites : new.site_parts ≡ old.site_parts = ap (λ (h : Heap). h.site_parts) other.rest in
    ap (λ n. let c : Config = record (config_in new graph) { parts = n } in c) other.parts
    ∙ ap (λ s. let c : Config = record (config_in new graph) { parts = length old.memory.words; site_parts = s } in c) sites
    ∙ ap (λ b. let c : Config = record (config_in old graph) { blocks = b } in c) other.blocks

-- a store whose heap was collected
abbrev pub collected : {Output : Type 0} → Held Output → Heap → List Facts → ℕ → Tally → Held Output
collected held heap facts collections tally = record held { heap = heap; facts = facts; collections = collections; tally = tally }

pub counts : {Output : Type 0} (told : Output → Option (List ℕ)) (held : Held Output) (heap : Heap) (facts : List Facts) (collections : ℕ) (tally : Tally) (set : List Bool) (is_partial : Bool) (visited freed : ℕ) (roots roots' : Roots) →
    IsCollected set held.heap heap roots roots' → facts ≡ facts_behind set (used_by heap) held.facts → visited ≡ words_in (length held.heap.memory.words) set (used_by heap) →
    freed ≡ words_in (length held.heap.memory.words) set (λ part. used_by held.heap part - used_by heap part) → HasOtherWords held.heap heap → collections ≡ counted held.collections → tally ≡ tally_behind is_partial visited freed held.tally →
    Collected set is_partial visited freed (standing_in told held roots) (standing_in told (collected held heap facts collections tally) roots')
counts told held heap facts collections tally set is_partial visited freed roots roots' is facts_are visited_is freed_is other count tally_is =
    record {
      residents = is.stays;
      taken = is.taken;
      left = is.left;
      config = config_same held.graph held.heap heap other;
      facts = facts_are;
      asked = refl;
      collections = count;
      visited_is = visited_is;
      freed_is = freed_is;
      tally = tally_is;
    }

-- all parts are closed
edge_below : (rows : List (List Bool)) (part other : ℕ) → has_edge rows part other ≡ true → part < length rows
edge_below rows part other edge =
    elim (cases_lt part (length rows)) [
      | inl below ↦ below
      | inr past ↦ absurd (false≢true (sym (get_or_past [] other false (omega arith)) ∙ ap (λ row. get_or row other false) (sym (get_or_past rows part [] (omega (arith, past)))) ∙ edge))
    ]

pub all_closed : (heap : Heap) (edges : List (ℕ × ℕ)) (all : List Bool) → IsGridOf (length heap.memory.words) edges heap.edges → all ≡ replicate (length heap.memory.words) true → IsClosedSet heap all
all_closed heap edges all grid is =
    subst (IsClosedSet heap) (sym is)
    (record {
      parts = length-replicate (length heap.memory.words) true;
      closed = λ part other edge there. get_or-replicate (length heap.memory.words) part true false (omega (arith, edge_below heap.edges part other edge, grid.nodes));
    })

-- it stays a store after a collection
pub still : {Output : Type 0} (held : Held Output) (heap : Heap) (facts : List Facts) (collections : ℕ) (tally : Tally) (blocks : ℕ) (all : List Bool) → IsCollecting held blocks all → HasOtherWords held.heap heap → IsUnmarked heap → KnowsParts heap facts →
    IsCollecting (collected held heap facts collections tally) blocks all
still held heap facts collections tally blocks all is other unmarked knows =
    record {
      unmarked = unmarked;
      grid = subst (λ n. IsGridOf n held.graph.edges heap.edges) (sym other.parts) (subst (λ e. IsGridOf (length held.heap.memory.words) held.graph.edges e) (sym (ap (λ (h : Heap). h.edges) other.rest)) is.grid);
      within = subst (λ n. AreWithin n held.graph.edges) (sym other.parts) is.within;
      knows = knows;
      blocks_are = is.blocks_are ∙ sym other.blocks;
      all_are = is.all_are ∙ ap (λ n. replicate n true) (sym other.parts);
    }

-- and when room was granted
pub still_granted : {Output : Type 0} (held : Held Output) (wants : List Want) (blocks : ℕ) (all : List Bool) → IsCollecting held blocks all → IsUnmarked (with_granted held.heap wants) → IsCollecting (record held { heap = with_granted held.heap wants }) blocks all
still_granted held wants blocks all is unmarked =
    record {
      unmarked = unmarked;
      grid = is.grid;
      within = is.within;
      knows = record { each = is.knows.each; known = λ part of there. let k = is.knows.known part of there in record { number = k.number; words = k.words; are = k.are } };
      blocks_are = is.blocks_are;
      all_are = is.all_are;
    }

-- the parts of a store that was opened
pub heap_of : {Output : Type 0} {before now : Held Output} → before ≡ now → before.heap ≡ now.heap
heap_of {Output} {before} {now} same = ap (λ (h : Held Output). h.heap) same

pub graph_of : {Output : Type 0} {before now : Held Output} → before ≡ now → before.graph ≡ now.graph
graph_of {Output} {before} {now} same = ap (λ (h : Held Output). h.graph) same

pub output_of : {Output : Type 0} {before now : Held Output} → before ≡ now → before.output ≡ now.output
output_of {Output} {before} {now} same = ap (λ (h : Held Output). h.output) same

-- what a collection of a store that was opened owes
pub counts_now : {Output : Type 0} {before now : Held Output} (told : Output → Option (List ℕ)) (heap : Heap) (facts : List Facts) (collections : ℕ) (tally : Tally) (set : List Bool) (is_partial : Bool) (visited freed : ℕ) (roots roots' : Roots) → before ≡ now →
    IsCollected set before.heap heap roots roots' → facts ≡ facts_behind set (used_by heap) before.facts → visited ≡ words_in (length before.heap.memory.words) set (used_by heap) →
    freed ≡ words_in (length before.heap.memory.words) set (λ part. used_by before.heap part - used_by heap part) → HasOtherWords before.heap heap → collections ≡ counted before.collections → tally ≡ tally_behind is_partial visited freed before.tally →
    Collected set is_partial visited freed (standing_in told now roots) (standing_in told (collected before heap facts collections tally) roots')
counts_now {Output} {before} {now} told heap facts collections tally set is_partial visited freed roots roots' same is facts_are visited_is freed_is other count tally_is =
    subst (λ (h : Held Output). Collected set is_partial visited freed (standing_in told h roots) (standing_in told (collected before heap facts collections tally) roots')) same
    (counts told before heap facts collections tally set is_partial visited freed roots roots' is facts_are visited_is freed_is other count tally_is)

-- and one of all parts
pub takes_now : {Output : Type 0} {before now : Held Output} (told : Output → Option (List ℕ)) (heap : Heap) (facts : List Facts) (collections : ℕ) (tally : Tally) (set : List Bool) (visited freed : ℕ) (roots roots' : Roots) → before ≡ now →
    set ≡ replicate (length before.heap.memory.words) true →
    IsCollected set before.heap heap roots roots' → facts ≡ facts_behind set (used_by heap) before.facts → visited ≡ words_in (length before.heap.memory.words) set (used_by heap) →
    freed ≡ words_in (length before.heap.memory.words) set (λ part. used_by before.heap part - used_by heap part) → HasOtherWords before.heap heap → collections ≡ counted before.collections → tally ≡ tally_behind false visited freed before.tally →
    TakesAll (standing_in told now roots) (Ok tt) (standing_in told (collected before heap facts collections tally) roots')
takes_now {Output} {before} {now} told heap facts collections tally set visited freed roots roots' same all is facts_are visited_is freed_is other count tally_is =
    subst (λ (h : Held Output). TakesAll (standing_in told h roots) (Ok tt) (standing_in told (collected before heap facts collections tally) roots')) same
    (record {
      visited = visited;
      freed = freed;
      collected = subst (λ s. Collected s false visited freed (standing_in told before roots) (standing_in told (collected before heap facts collections tally) roots')) all
          (counts told before heap facts collections tally set false visited freed roots roots' is facts_are visited_is freed_is other count tally_is);
      told = (refl, refl);
    })

pub tally_of : {Output : Type 0} {before now : Held Output} → before ≡ now → before.tally ≡ now.tally
tally_of {Output} {before} {now} same = ap (λ (h : Held Output). h.tally) same

pub ready_of : {Output : Type 0} {before now : Held Output} (blocks : ℕ) (all : List Bool) → before ≡ now → IsCollecting before blocks all → IsReady now
ready_of {Output} {before} {now} blocks all same is = subst (λ (h : Held Output). IsReady h) same (record { each = is.knows.each; within = is.within })

-- a store that was asked once more, and one of which the heap was granted room or not
pub still_asked : {Output : Type 0} (held : Held Output) (asked blocks : ℕ) (all : List Bool) → IsCollecting held blocks all → IsCollecting (record held { asked = asked }) blocks all
still_asked held asked blocks all is = record { unmarked = is.unmarked; grid = is.grid; within = is.within; knows = is.knows; blocks_are = is.blocks_are; all_are = is.all_are }

pub counted_now : {Output : Type 0} {before now : Held Output} (asked : ℕ) → before ≡ now → asked ≡ asked_behind (objects_in before.heap) before.asked → (let h : Held Output = record before { asked = asked } in h) ≡ counted_for (objects_in now.heap) now
counted_now {Output} {before} {now} asked same is = ap (λ a. let h : Held Output = record before { asked = a } in h) is ∙ ap (λ (h : Held Output). counted_for (objects_in h.heap) h) same

pub still_by : {Output : Type 0} (held : Held Output) (heap : Heap) (wants : List Want) (blocks : ℕ) (all : List Bool) → (heap ≡ with_granted held.heap wants) ⊎ (heap ≡ held.heap) → IsUnmarked heap → IsCollecting held blocks all → IsCollecting (record held { heap = heap }) blocks all
still_by {Output} held heap wants blocks all (inl is) unmarked c =
    subst (λ h. let now : Held Output = record held { heap = h } in IsCollecting now blocks all) (sym is) (still_granted held wants blocks all c (subst IsUnmarked is unmarked))
still_by {Output} held heap wants blocks all (inr is) unmarked c =
    subst (λ h. let now : Held Output = record held { heap = h } in IsCollecting now blocks all) (sym is) c

pub granted_now : {Output : Type 0} {before now : Held Output} (heap : Heap) (wants : List Want) → before ≡ now → heap ≡ with_granted before.heap wants → (let h : Held Output = record before { heap = heap } in h) ≡ granted_to wants now
granted_now {Output} {before} {now} heap wants same is = ap (λ x. let h : Held Output = record before { heap = x } in h) is ∙ ap (λ (h : Held Output). granted_to wants h) same

pub refused_now : {Output : Type 0} {before now : Held Output} (heap : Heap) → before ≡ now → heap ≡ before.heap → (let h : Held Output = record before { heap = heap } in h) ≡ now
refused_now {Output} {before} {now} heap same is = ap (λ x. let h : Held Output = record before { heap = x } in h) is ∙ same

-- where nothing failed, no fault was counted
pub same_faults : {Output : Type 0} (faults : Output → ℕ) (before now : Output) (failed : Type 0) → now ≡ before → (failed → ⊥) → CountsFaults (faults before) (faults now) failed
same_faults {Output} faults before now failed same fine =
    let is : faults now ≡ faults before = ap faults same in
    record { never_falls = omega (arith, is); exact = λ below. (λ bad. absurd (fine bad), λ rose. absurd (omega (arith, is, rose))) }

-- how many steps asked for room
pub asked_none : (objects : List (Option Object)) (asked : ℕ) → length objects ≡ 0 → asked_behind objects asked ≡ asked
asked_none [] asked none = refl
asked_none (first ∷ objects) asked none = absurd (omega (arith, none))

pub asked_some : (objects : List (Option Object)) (asked : ℕ) → 0 < length objects → asked_behind objects asked ≡ counted asked
asked_some [] asked some = absurd (omega (arith, some))
asked_some (first ∷ objects) asked some = refl
