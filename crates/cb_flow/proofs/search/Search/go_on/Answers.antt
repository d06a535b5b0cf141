use Rattle.std.proofs.Common.{◌≡◌, ◌∙◌, ◌<◌, arith, ap, sym, subst, length, get_or, ℕ, true, below_more}
use Rattle.std.specs.List.{All}
use Rattle.std.proofs.lemmas.List.{get_or_read}
use Rattle.std.proofs.lemmas.Option.{get_or_from_slice_get}
use Rattle.cb_dag.specs.Marks.{marked}
use Rattle.cb_dag.specs.Places.{end_of}
use Rattle.cb_dag.specs.declared.ends.End.TheVariants.{Finish}
use Rattle.cb_dag.proofs.Laws.{edges_at_below, edges_at_part}
use Rattle.cb_flow.specs.Visits.{no_visit}
use Rattle.cb_flow.specs.declared.visit.Visit.{Visit}
use Rattle.cb_flow.proofs.Visiting.{count_room, grown_on, onwards_visit, starts_seen}
use Rattle.cb_flow.proofs.search.Search.go_on.Goals as goal

pub edge-requires : goal.edge-requires
edge-requires c = subst (All (λ i. i < length c.args.graph.now.edges)) (sym c.into-edges.ensures) (edges_at_below Finish c.index.result.now.part c.args.graph.now.edges) c.loop-edge.edge-index 0 (omega arith)

pub reach-requires-clause-part : goal.reach-requires-clause-part
reach-requires-clause-part c =
    let low = subst (All (λ i. i < length c.args.graph.now.edges)) (sym c.into-edges.ensures) (edges_at_below Finish c.index.result.now.part c.args.graph.now.edges) c.loop-edge.edge-index 0 (omega arith) in
    let there = get_or_from_slice_get c.args.graph.now.edges (get_or c.into-edges.result.now c.loop-edge.edge-index 0) c.edge.result (0, 0) c.edge.ensures in
    let small = subst (λ (e : ℕ × ℕ). (e.0 < c.args.graph.now.parts) × (e.1 < c.args.graph.now.parts)) there (c.parts-parts.ensures.within (get_or c.into-edges.result.now c.loop-edge.edge-index 0) (0, 0) low) in
    omega (arith, small.0, c.requires.each, c.loop-edge.invariant.0.seen_each)

pub loop-edge-preserved : goal.loop-edge-preserved
loop-edge-preserved c =
    let low = subst (All (λ i. i < length c.args.graph.now.edges)) (sym c.into-edges.ensures) (edges_at_below Finish c.index.result.now.part c.args.graph.now.edges) c.loop-edge.edge-index 0 (omega arith) in
    let there = get_or_from_slice_get c.args.graph.now.edges (get_or c.into-edges.result.now c.loop-edge.edge-index 0) c.edge.result (0, 0) c.edge.ensures in
    let small = subst (λ (e : ℕ × ℕ). (e.0 < c.args.graph.now.parts) × (e.1 < c.args.graph.now.parts)) there (c.parts-parts.ensures.within (get_or c.into-edges.result.now c.loop-edge.edge-index 0) (0, 0) low) in
    let end = subst (All (λ i. end_of Finish (get_or c.args.graph.now.edges i (0, 0)) ≡ c.index.result.now.part)) (sym c.into-edges.ensures) (edges_at_part Finish c.index.result.now.part c.args.graph.now.edges) c.loop-edge.edge-index 0 (omega arith) in
    let from = get_or_read c.args.self.now.visits.items c.args.at c.index.result.now (omega (arith, c.requires.at, count_room c.args.self.now.seen.items _ c.requires.before.counted, c.requires.before.seen_each, c.requires.before.visit_each)) c.index.ensures no_visit in (
      c.reach.ensures.search c.args.gains.now c.args.graph.now.edges c.args.flow.now c.loop-edge.invariant.0
          (onwards_visit c.args.gains.now c.args.graph.now.edges c.args.flow.now c.args.self.now.visits.items c.args.self.now.count c.args.self.now.seen.items
          c.loop-edge.self.visits.items c.loop-edge.self.count c.loop-edge.self.seen.items c.loop-edge.invariant.0 c.loop-edge.invariant.1 c.args.at c.requires.at c.index.result.now from
          (get_or c.into-edges.result.now c.loop-edge.edge-index 0) c.edge.result low there (ap (λ (e : ℕ × ℕ). e.1) (sym there) ∙ end) (omega (arith, small.0, c.requires.each))),
      grown_on c.args.self.now.visits.items c.loop-edge.self.visits.items c.reach.new.self.visits.items c.args.self.now.count c.loop-edge.self.count c.reach.new.self.count
          c.args.self.now.seen.items c.loop-edge.self.seen.items c.reach.new.self.seen.items c.loop-edge.invariant.1 c.reach.ensures.grows,
      below_more (λ k. marked c.reach.new.self.seen.items (get_or c.args.graph.now.edges (get_or c.into-edges.result.now k 0) (0, 0)).0 ≡ true) c.loop-edge.edge-index
          (λ k early. c.reach.ensures.grows.still _ (c.loop-edge.invariant.2 k early))
          (subst (λ (e : ℕ × ℕ). marked c.reach.new.self.seen.items e.0 ≡ true) (sym there) c.reach.ensures.reached),
    )

pub returns-clause-onwards : goal.returns-clause-onwards
returns-clause-onwards c =
    let from = get_or_read c.args.self.now.visits.items c.args.at c.index.result.now (omega (arith, c.requires.at, count_room c.args.self.now.seen.items _ c.requires.before.counted, c.requires.before.seen_each, c.requires.before.visit_each)) c.index.ensures no_visit in
    λ i low end. starts_seen c.args.graph.now.edges c.loop-edge.self.seen.items c.index.result.now.part c.into-edges.result.now c.into-edges.ensures
    (λ k within. c.loop-edge.invariant.2 k (omega (arith, within))) i low (end ∙ ap (λ (v : Visit). v.part) (sym from))
