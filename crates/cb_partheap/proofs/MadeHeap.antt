-- A heap without objects is a heap.
use Rattle.std.proofs.Common.{◌≡◌, ◌∙◌, ℕ, zero, suc, ◌*◌, ◌/◌, ◌^◌, ◌<◌, ◌≤◌, Bool, List, [], length, replicate, refl, sym, ap, arith, subst}
use Rattle.std.specs.List.{All}
use Rattle.std.proofs.lemmas.List.{get_or-replicate, length-replicate}
use Rattle.std.proofs.lemmas.List.Sums.{sum_by-cons}
use Rattle.cb_plain.specs.declared.shape.Shape.{Shape}
use Rattle.cb_plain.specs.declared.want.Want.{Want}
use Rattle.cb_dag.specs.Parts.{Condensed}
use Rattle.cb_dag.specs.Stored.{IsGraph}
use Rattle.cb_blocks.specs.Parted.{IsParted, Parted, blocks_for, empty_parts, taken}
use Rattle.cb_blocks.specs.Rows.{row}
use Rattle.cb_partheap.specs.Heaps.{Heap, objects_in}
use Rattle.cb_partheap.specs.Made.{IsGridOf, IsMade}
use Rattle.cb_partheap.specs.Spots.{IsSpot, Spot}
use Rattle.cb_partheap.specs.Stacks.{Stacked}
use Rattle.cb_partheap.specs.Whole.{IsHeap}
use Rattle.cb_partheap.specs.Words.{missing}
use Rattle.cb_partheap.proofs.Rooms.{nothing_asked}

-- what a new heap is made of
abbrev pub made : Parted → List Shape → List ℕ → List (List Bool) → List Want → Stacked → Heap
made memory shapes site_parts edges granted grey = record { memory = memory; shapes = shapes; site_parts = site_parts; edges = edges; next = 1; granted = granted; grey = grey }

pub record Making (site_parts : List ℕ) (graph : Condensed) (blocks : ℕ) (memory : Parted) (edges : List (List Bool)) (granted : List Want) (grey : Stacked) : Type 0 where
  pub sites : length site_parts ≤ 2 ^ 14
  pub parts : All (λ part. part < graph.parts) site_parts
  pub is_graph : IsGraph graph
  pub memory_is : memory ≡ empty_parts blocks graph.parts
  pub sound : IsParted memory
  pub grid : IsGridOf graph.parts graph.edges edges
  pub granted_is : granted ≡ []
  pub grey_is : grey ≡ record { places = []; room = blocks * 256 / 3 }

pub making : {site_parts : List ℕ} {blocks : ℕ} {memory : Parted} {edges : List (List Bool)} {granted : List Want} {grey : Stacked} (graph : Condensed) → length site_parts ≤ 2 ^ 14 → All (λ part. part < graph.parts) site_parts → IsGraph graph →
    memory ≡ empty_parts blocks graph.parts → IsParted memory → IsGridOf graph.parts graph.edges edges → granted ≡ [] → grey ≡ record { places = []; room = blocks * 256 / 3 } → Making site_parts graph blocks memory edges granted grey
making {site_parts} {blocks} {memory} {edges} {granted} {grey} graph sites parts is_graph memory_is sound grid granted_is grey_is =
    record { sites = sites; parts = parts; is_graph = is_graph; memory_is = memory_is; sound = sound; grid = grid; granted_is = granted_is; grey_is = grey_is }

row_empty : (blocks parts part : ℕ) → part < parts → row (empty_parts blocks parts).words part ≡ []
row_empty blocks parts part below = get_or-replicate parts part [] [] below

no_spot : (blocks parts : ℕ) (spot : Spot) → IsSpot (empty_parts blocks parts) spot → ⊥
no_spot blocks parts spot here =
    let below : spot.part < parts = omega (arith, here.part, length-replicate {A = List ℕ} parts []) in
    absurd (omega (arith, here.inside, ap length (row_empty blocks parts spot.part below)))

taken_none : (parts : ℕ) → taken (replicate parts []) ≡ 0
taken_none zero = refl
taken_none (suc parts) = sum_by-cons (λ (part : List ℕ). blocks_for (length part)) [] (replicate parts []) ∙ (let rest = taken_none parts in omega (arith, rest))

made_empty : (shapes : List Shape) (site_parts : List ℕ) (graph : Condensed) (blocks : ℕ) (edges : List (List Bool)) → length site_parts ≤ 2 ^ 14 → All (λ part. part < graph.parts) site_parts → IsGraph graph → IsParted (empty_parts blocks graph.parts) → length edges ≡ graph.parts →
    IsHeap (made (empty_parts blocks graph.parts) shapes site_parts edges [] (record { places = []; room = blocks * 256 / 3 }))
made_empty shapes site_parts graph blocks edges sites parts is_graph sound grid =
    let count : length (empty_parts blocks graph.parts).words ≡ graph.parts = length-replicate {A = List ℕ} graph.parts [] in
    record {
      parted = sound;
      whole = λ part below. ap (missing 0) (row_empty blocks graph.parts part (omega (arith, below, count)));
      placed = λ spot here. absurd (no_spot blocks graph.parts spot here);
      once = λ one other here there same. absurd (no_spot blocks graph.parts one here);
      refers = λ spot i here below marked. absurd (no_spot blocks graph.parts spot here);
      some = omega arith;
      sites = sites;
      site_within = λ site below. omega (arith, parts site 0 below, count);
      few_parts = omega (arith, is_graph.few_parts, count);
      grid = grid ∙ sym count;
      room = omega (arith, nothing_asked (empty_parts blocks graph.parts).words site_parts, taken_none graph.parts);
      known = λ site some. absurd (omega (arith, some));
      idle = refl;
      ready = omega arith;
    }

pub made_heap : {site_parts : List ℕ} {graph : Condensed} {blocks : ℕ} {memory : Parted} {edges : List (List Bool)} {granted : List Want} {grey : Stacked} (shapes : List Shape) → Making site_parts graph blocks memory edges granted grey →
    IsHeap (made memory shapes site_parts edges granted grey)
made_heap {site_parts} {graph} {blocks} {memory} {edges} {granted} {grey} shapes m =
    subst (λ (p : Parted). IsHeap (made p shapes site_parts edges granted grey)) (sym m.memory_is)
    (subst (λ g. IsHeap (made (empty_parts blocks graph.parts) shapes site_parts edges g grey)) (sym m.granted_is)
    (subst (λ s. IsHeap (made (empty_parts blocks graph.parts) shapes site_parts edges [] s)) (sym m.grey_is)
    (made_empty shapes site_parts graph blocks edges m.sites m.parts m.is_graph (subst IsParted m.memory_is m.sound) m.grid.nodes)))

no_objects : (heap : Heap) → heap.next ≡ 1 → objects_in heap ≡ []
unfolding objects_in
no_objects heap next = rw next refl

pub is_made : {site_parts : List ℕ} {graph : Condensed} {blocks : ℕ} {memory : Parted} {edges : List (List Bool)} {granted : List Want} {grey : Stacked} (shapes : List Shape) → Making site_parts graph blocks memory edges granted grey →
    IsMade shapes site_parts graph blocks (made memory shapes site_parts edges granted grey)
is_made {site_parts} {graph} {blocks} {memory} {edges} {granted} {grey} shapes m =
    record { memory = m.memory_is; shapes_are = refl; sites_are = refl; edges = m.grid; next = refl; granted = m.granted_is; objects = no_objects (made memory shapes site_parts edges granted grey) refl }
