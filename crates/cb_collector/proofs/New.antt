-- A store over a heap without objects.
use Rattle.std.proofs.Common.{◌≡◌, ◌∙◌, ℕ, zero, suc, ◌+◌, ◌<◌, Bool, true, false, List, [], length, replicate, refl, sym, ap, arith, subst}
use Rattle.std.specs.List.{range_with_len, sum_by}
use Rattle.std.proofs.lemmas.List.{get_or-replicate, length-replicate}
use Rattle.std.proofs.lemmas.List.FromFn.{get_or-map-range_with_len, length-map-range_with_len}
use Rattle.std.proofs.lemmas.List.Sums.{sum_by-cons}
use Rattle.std.proofs.lemmas.Option.{get_or_from_slice_get, slice_get_within}
use Rattle.cb_plain.specs.declared.facts.Facts.{Facts}
use Rattle.cb_dag.specs.Parts.{AreWithin, Condensed}
use Rattle.cb_dag.specs.Stored.{IsGraph}
use Rattle.cb_heap.specs.Occupancy.{blocks, blocks_of, used}
use Rattle.cb_blocks.specs.Parted.{Parted}
use Rattle.cb_blocks.specs.Rows.{row}
use Rattle.cb_partheap.specs.Heaps.{Heap, part_of}
use Rattle.cb_partheap.specs.Made.{IsGridOf, IsMade}
use Rattle.cb_partheap.specs.Marks.{IsUnmarked}
use Rattle.cb_collector.specs.Held.{Held, IsCollecting, IsNew, KnowsPart, KnowsParts, used_by}
use Rattle.cb_collector.specs.Known.{facts_at_first, first_facts, no_tally}

none_in : (sites : ℕ → ℕ) (a n : ℕ) → sum_by (λ part. blocks_of (used sites [] part)) (range_with_len a n) ≡ 0
none_in sites a zero = refl
none_in sites a (suc n) = omega (arith, sum_by-cons (λ part. blocks_of (used sites [] part)) a (range_with_len (a + 1) n), none_in sites (a + 1) n)

module _ (heap : Heap) (graph : Condensed) (made : IsMade heap.shapes heap.site_parts graph heap.memory.blocks heap) where
  pub parts_made : length heap.memory.words ≡ graph.parts
  parts_made = ap (λ (m : Parted). length m.words) made.memory ∙ length-replicate graph.parts []

  row_made : (part : ℕ) → part < graph.parts → length (row heap.memory.words part) ≡ 0
  row_made part below = ap (λ (m : Parted). length (row m.words part)) made.memory ∙ ap length (get_or-replicate graph.parts part [] [] below)

  pub all_free : (free : ℕ) → blocks (length heap.memory.words) (used_by heap) + free ≡ heap.memory.blocks → free ≡ heap.memory.blocks
  all_free free has =
      let none : blocks (length heap.memory.words) (used_by heap) ≡ 0 =
      ap (λ objects. blocks (length heap.memory.words) (used (part_of heap.site_parts) objects)) made.objects ∙ none_in (part_of heap.site_parts) 0 (length heap.memory.words) in
      omega (arith, has, none)

  knows_first : KnowsParts heap (facts_at_first graph.parts)
  knows_first =
      record {
        each = length-map-range_with_len (first_facts false) 0 graph.parts ∙ sym parts_made;
        known = λ part of there.
            let below : part < graph.parts = omega (arith, slice_get_within (facts_at_first graph.parts) part of there, length-map-range_with_len (first_facts false) 0 graph.parts) in
            let at : 0 + part ≡ part = omega arith in
            let is : first_facts false part ≡ of = sym (get_or-map-range_with_len (first_facts false) 0 graph.parts part part of below at) ∙ get_or_from_slice_get (facts_at_first graph.parts) part of of there in
            subst (KnowsPart heap part) is
            (record {
              number = refl;
              words = sym (row_made part below);
              are = record { sum = refl; most = omega arith; live = omega arith; some = omega arith; last = omega arith };
            });
      }

  pub new_collecting : {Output : Type 0} (output : Output) (facts : List Facts) (all : List Bool) (count : ℕ) → IsGraph graph → IsUnmarked heap → facts ≡ facts_at_first graph.parts → all ≡ replicate graph.parts true → count ≡ heap.memory.blocks →
      IsCollecting (let h : Held Output = record { heap = heap; graph = graph; facts = facts; asked = 0; collections = 0; tally = no_tally; output = output } in h) count all
  new_collecting {Output} output facts all count is unmarked facts_are all_are count_is =
      record {
        unmarked = unmarked;
        grid = subst (λ n. IsGridOf n graph.edges heap.edges) (sym parts_made) made.edges;
        within = subst (λ n. AreWithin n graph.edges) (sym parts_made) is.within;
        knows = subst (KnowsParts heap) (sym facts_are) knows_first;
        blocks_are = count_is;
        all_are = all_are ∙ ap (λ n. replicate n true) (sym parts_made);
      }

  pub new_is : {Output : Type 0} (output : Output) (facts : List Facts) → facts ≡ facts_at_first graph.parts →
      IsNew heap graph output (let h : Held Output = record { heap = heap; graph = graph; facts = facts; asked = 0; collections = 0; tally = no_tally; output = output } in h)
  new_is {Output} output facts facts_are =
      record { heap_is = refl; graph_is = refl; facts_are = facts_are ∙ ap facts_at_first (sym parts_made); none_asked = refl; none_collected = refl; tally_is = refl; output_is = refl }
