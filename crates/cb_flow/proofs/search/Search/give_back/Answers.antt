use Rattle.std.proofs.Common.{◌≡◌, ◌∙◌, ◌<◌, ◌+◌, arith, ap, sym, subst, length, get_or, ℕ, true, below_more}
use Rattle.std.specs.List.{All}
use Rattle.std.proofs.lemmas.List.{get_or_read}
use Rattle.std.proofs.lemmas.Option.{get_or_from_slice_get}
use Rattle.cb_dag.specs.Marks.{marked}
use Rattle.cb_dag.specs.Places.{end_of}
use Rattle.cb_dag.specs.declared.ends.End.TheVariants.{Start}
use Rattle.cb_dag.proofs.Laws.{edges_at_below, edges_at_part}
use Rattle.cb_flow.specs.Visits.{Grows, IsSearch, no_visit}
use Rattle.cb_flow.specs.declared.search.Search.{Search}
use Rattle.cb_flow.specs.declared.visit.Visit.{Visit}
use Rattle.cb_flow.proofs.Visiting.{count_room, grown_on, given_visit, finishes_seen}
use Rattle.cb_flow.proofs.search.Search.give_back.Goals as goal
use Rattle.cb_flow.proofs.search.Search.give_back.Goals.{then-back-gt0, else-back-gt0}

pub arc-back-requires : goal.arc-back-requires
arc-back-requires c = let low = subst (All (λ i. i < length c.args.graph.now.edges)) (sym c.out_of-edges.ensures) (edges_at_below Start c.index.result.now.part c.args.graph.now.edges) c.loop-edge.edge-index 0 (omega arith) in omega (arith, low, c.requires.arcs)

pub edge-requires : goal.edge-requires
edge-requires c = subst (All (λ i. i < length c.args.graph.now.edges)) (sym c.out_of-edges.ensures) (edges_at_below Start c.index.result.now.part c.args.graph.now.edges) c.loop-edge.edge-index 0 (omega arith)

pub reach-requires-clause-part : goal.reach-requires-clause-part
reach-requires-clause-part c =
    let low = subst (All (λ i. i < length c.args.graph.now.edges)) (sym c.out_of-edges.ensures) (edges_at_below Start c.index.result.now.part c.args.graph.now.edges) c.loop-edge.edge-index 0 (omega arith) in
    let there = get_or_from_slice_get c.args.graph.now.edges (get_or c.out_of-edges.result.now c.loop-edge.edge-index 0) c.edge.result (0, 0) c.edge.ensures in
    let small = subst (λ (e : ℕ × ℕ). (e.0 < c.args.graph.now.parts) × (e.1 < c.args.graph.now.parts)) there (c.parts-parts.ensures.within (get_or c.out_of-edges.result.now c.loop-edge.edge-index 0) (0, 0) low) in
    omega (arith, small.1, c.requires.each, c.loop-edge.invariant.0.seen_each)

pub loop-edge-preserved : goal.loop-edge-preserved
loop-edge-preserved c =
    let low = subst (All (λ i. i < length c.args.graph.now.edges)) (sym c.out_of-edges.ensures) (edges_at_below Start c.index.result.now.part c.args.graph.now.edges) c.loop-edge.edge-index 0 (omega arith) in
    let end = subst (All (λ i. end_of Start (get_or c.args.graph.now.edges i (0, 0)) ≡ c.index.result.now.part)) (sym c.out_of-edges.ensures) (edges_at_part Start c.index.result.now.part c.args.graph.now.edges) c.loop-edge.edge-index 0 (omega arith) in
    let flows = get_or_from_slice_get c.args.flow.now.arcs (get_or c.out_of-edges.result.now c.loop-edge.edge-index 0) c.arc-back.result 0 c.arc-back.ensures in
    let from = get_or_read c.args.self.now.visits.items c.args.at c.index.result.now (omega (arith, c.requires.at, count_room c.args.self.now.seen.items _ c.requires.before.counted, c.requires.before.seen_each, c.requires.before.visit_each)) c.index.ensures no_visit in
    elim c.if-back-gt0.branch [
      | then-back-gt0 w ↦
          let there = get_or_from_slice_get c.args.graph.now.edges (get_or c.out_of-edges.result.now c.loop-edge.edge-index 0) w.edge.result (0, 0) w.edge.ensures in
          let small = subst (λ (e : ℕ × ℕ). (e.0 < c.args.graph.now.parts) × (e.1 < c.args.graph.now.parts)) there (c.parts-parts.ensures.within (get_or c.out_of-edges.result.now c.loop-edge.edge-index 0) (0, 0) low) in
          let search = w.reach.ensures.search c.args.gains.now c.args.graph.now.edges c.args.flow.now c.loop-edge.invariant.0
          (given_visit c.args.gains.now c.args.graph.now.edges c.args.flow.now c.args.self.now.visits.items c.args.self.now.count c.args.self.now.seen.items
          c.loop-edge.self.visits.items c.loop-edge.self.count c.loop-edge.self.seen.items c.loop-edge.invariant.0 c.loop-edge.invariant.1 c.args.at c.requires.at c.index.result.now from
          (get_or c.out_of-edges.result.now c.loop-edge.edge-index 0) w.edge.result low there (ap (λ (e : ℕ × ℕ). e.0) (sym there) ∙ end) (omega (arith, small.1, c.requires.each))
          c.arc-back.result w.min.result w.if-back-gt0.true flows w.min.ensures) in
          let grows = grown_on c.args.self.now.visits.items c.loop-edge.self.visits.items w.reach.new.self.visits.items c.args.self.now.count c.loop-edge.self.count w.reach.new.self.count
          c.args.self.now.seen.items c.loop-edge.self.seen.items w.reach.new.self.seen.items c.loop-edge.invariant.1 w.reach.ensures.grows in
          let marks = below_more (λ k. 0 < get_or c.args.flow.now.arcs (get_or c.out_of-edges.result.now k 0) 0 → marked w.reach.new.self.seen.items (get_or c.args.graph.now.edges (get_or c.out_of-edges.result.now k 0) (0, 0)).1 ≡ true) c.loop-edge.edge-index
          (λ k early some. w.reach.ensures.grows.still _ (c.loop-edge.invariant.2 k early some))
          (λ some. subst (λ (e : ℕ × ℕ). marked w.reach.new.self.seen.items e.1 ≡ true) (sym there) w.reach.ensures.reached) in
          subst (λ (s : Search). IsSearch c.args.gains.now c.args.graph.now.edges c.args.flow.now s.visits.items s.count s.seen.items
          × Grows c.args.self.now.visits.items c.args.self.now.count c.args.self.now.seen.items s.visits.items s.count s.seen.items
          × ((k : ℕ) → k < c.loop-edge.edge-index + 1 → 0 < get_or c.args.flow.now.arcs (get_or c.out_of-edges.result.now k 0) 0 → marked s.seen.items (get_or c.args.graph.now.edges (get_or c.out_of-edges.result.now k 0) (0, 0)).1 ≡ true))
          (sym w.self-is) (search, grows, marks)
      | else-back-gt0 w ↦
          let marks = below_more (λ k. 0 < get_or c.args.flow.now.arcs (get_or c.out_of-edges.result.now k 0) 0 → marked c.loop-edge.self.seen.items (get_or c.args.graph.now.edges (get_or c.out_of-edges.result.now k 0) (0, 0)).1 ≡ true) c.loop-edge.edge-index
          (λ k early some. c.loop-edge.invariant.2 k early some)
          (λ some. absurd (omega (arith, some, flows, w.if-back-gt0.false))) in
          subst (λ (s : Search). IsSearch c.args.gains.now c.args.graph.now.edges c.args.flow.now s.visits.items s.count s.seen.items
          × Grows c.args.self.now.visits.items c.args.self.now.count c.args.self.now.seen.items s.visits.items s.count s.seen.items
          × ((k : ℕ) → k < c.loop-edge.edge-index + 1 → 0 < get_or c.args.flow.now.arcs (get_or c.out_of-edges.result.now k 0) 0 → marked s.seen.items (get_or c.args.graph.now.edges (get_or c.out_of-edges.result.now k 0) (0, 0)).1 ≡ true))
          (sym w.self-is) (c.loop-edge.invariant.0, c.loop-edge.invariant.1, marks)
    ]

pub returns-clause-given_back : goal.returns-clause-given_back
returns-clause-given_back c =
    let from = get_or_read c.args.self.now.visits.items c.args.at c.index.result.now (omega (arith, c.requires.at, count_room c.args.self.now.seen.items _ c.requires.before.counted, c.requires.before.seen_each, c.requires.before.visit_each)) c.index.ensures no_visit in
    λ i low end some. finishes_seen c.args.graph.now.edges c.args.flow.now.arcs c.loop-edge.self.seen.items c.index.result.now.part c.out_of-edges.result.now c.out_of-edges.ensures
    (λ k within more. c.loop-edge.invariant.2 k (omega (arith, within)) more) i low (end ∙ ap (λ (v : Visit). v.part) (sym from)) some
