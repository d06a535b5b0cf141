-- What contracts see of a collecting store.
use Rattle.std.specs.Prelude.{◌≡◌, ◌+◌, ◌-◌, ◌^◌, [], ◌∷◌, min, ℕ, Bool, true, false, List, Option, None, Some, length, replicate, slice_get, slice_index_or}
use Rattle.cb_plain.specs.Estimates.{AreFacts, all_code}
use Rattle.cb_plain.specs.State.{Object, Roots}
use Rattle.cb_plain.specs.declared.want.Want.{Want}
use Rattle.cb_plain.specs.declared.facts.Facts.{Facts}
use Rattle.cb_heap.specs.Occupancy.{blocks, used, wanted}
use Rattle.cb_heap.specs.declared.no_room.NoRoom.{NoRoom}
use Rattle.cb_heap.specs.declared.no_room.NoRoom.TheVariants as rooms
use Rattle.cb_heap.specs.Reading.{seen}
use Rattle.cb_dag.specs.Parts.{AreWithin, Condensed}
use Rattle.cb_blocks.specs.Rows.{row}
use Rattle.cb_partheap.specs.Heaps.{Heap, index_in, objects_in, part_of, with_granted}
use Rattle.cb_partheap.specs.Made.{IsGridOf}
use Rattle.cb_partheap.specs.Marks.{IsUnmarked}
use Rattle.cb_collector.specs.Collecting.{Standing}
use Rattle.cb_collector.specs.Known.{Config, Known, counted, facts_at_first, first_facts, no_tally}
use Rattle.cb_collector.specs.declared.tally.Tally.{Tally}

-- its objects; the graph of its parts; what it knows of each part; how many steps asked for room; how many collections there were, and what they came to;
-- and the output of its report
pub record Held (Output : Type 0) : Type 0 where
  pub heap : Heap
  pub graph : Condensed
  pub facts : List Facts
  pub asked : ℕ
  pub collections : ℕ
  pub tally : Tally
  pub output : Output

-- all that is used is reckoned to survive, no set is taken but where there is no room, and nothing is reported
abbrev pub config_in : Heap → Condensed → Config
config_in heap graph =
    record { parts = length heap.memory.words; site_parts = heap.site_parts; edges = graph.edges; blocks = heap.memory.blocks; every = None; code = all_code; reports = false }

-- what it knows, by what its output tells, and with roots what it stands at
abbrev pub known_in : {Output : Type 0} → (Output → Option (List ℕ)) → Held Output → Known
known_in told held =
    record { config = config_in held.heap held.graph; facts = held.facts; asked = held.asked; collections = held.collections; tally = held.tally; told = told held.output }

abbrev pub standing_in : {Output : Type 0} → (Output → Option (List ℕ)) → Held Output → Roots → Standing
standing_in told held roots = record { known = known_in told held; view = seen (index_in held.heap) (objects_in held.heap) roots }

-- the words of the objects of a part
abbrev pub used_by : Heap → ℕ → ℕ
used_by heap part = used (part_of heap.site_parts) (objects_in heap) part

-- a store that was asked for room, that granted it, and that refuses it
abbrev pub asked_behind : List (Option Object) → ℕ → ℕ
asked_behind [] asked = asked
asked_behind (first ∷ objects) asked = counted asked

abbrev pub counted_for : {Output : Type 0} → List (Option Object) → Held Output → Held Output
counted_for objects held = record held { asked = asked_behind objects held.asked }

abbrev pub granted_to : {Output : Type 0} → List Want → Held Output → Held Output
granted_to wants held = record held { heap = with_granted held.heap wants }

abbrev pub full_by : Heap → List Want → NoRoom
full_by heap wants =
    let live = blocks (length heap.memory.words) (used_by heap) in
    rooms.Full live (min (blocks (length heap.memory.words) (λ part. used_by heap part + wanted (part_of heap.site_parts) wants part) - live) (2 ^ 64 - 1)) heap.memory.blocks

-- what is known to be used in a part
abbrev pub used_known : List Facts → ℕ → ℕ
used_known facts part = (slice_index_or facts part (first_facts false part)).used

-- what is known of a part has its number, and the words that are used in it
pub record KnowsPart (heap : Heap) (part : ℕ) (facts : Facts) : Type 0 where
  pub number : facts.part ≡ part
  pub words : facts.used ≡ length (row heap.memory.words part)
  pub are : AreFacts facts

pub record KnowsParts (heap : Heap) (facts : List Facts) : Type 0 where
  pub each : length facts ≡ length heap.memory.words
  pub known : (part : ℕ) → (of : Facts) → slice_get facts part ≡ Some of → KnowsPart heap part of

-- no object is marked; the edges of the graph are those along which references lead, between parts; of each part is known what is used in it; and the number of
-- blocks and the set of all parts are kept beside
pub record IsCollecting {Output : Type 0} (held : Held Output) (blocks : ℕ) (all : List Bool) : Type 0 where
  pub unmarked : IsUnmarked held.heap
  pub grid : IsGridOf (length held.heap.memory.words) held.graph.edges held.heap.edges
  pub within : AreWithin (length held.heap.memory.words) held.graph.edges
  pub knows : KnowsParts held.heap held.facts
  pub blocks_are : blocks ≡ held.heap.memory.blocks
  pub all_are : all ≡ replicate (length held.heap.memory.words) true

-- so much is known of every part, and the edges of the graph lead between parts
pub record IsReady {Output : Type 0} (held : Held Output) : Type 0 where
  pub each : length held.facts ≡ length held.heap.memory.words
  pub within : AreWithin (length held.heap.memory.words) held.graph.edges

-- a collecting store of this heap, at the start of a run
pub record IsNew {Output : Type 0} (heap : Heap) (graph : Condensed) (output : Output) (held : Held Output) : Type 0 where
  pub heap_is : held.heap ≡ heap
  pub graph_is : held.graph ≡ graph
  pub facts_are : held.facts ≡ facts_at_first (length heap.memory.words)
  pub none_asked : held.asked ≡ 0
  pub none_collected : held.collections ≡ 0
  pub tally_is : held.tally ≡ no_tally
  pub output_is : held.output ≡ output
