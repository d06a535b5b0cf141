use Rattle.std.proofs.Common.{◌<◌, ◌∙◌, ap, arith, below_more, subst, sym, length}
use Rattle.std.specs.List.{All}
use Rattle.cb_dag.specs.Places.{edges_at}
use Rattle.cb_dag.specs.declared.ends.End.TheVariants.{Finish, Start}
use Rattle.cb_dag.proofs.Laws.{edges_at_below, length-edges_at}
use Rattle.cb_cut.specs.Faults.{IsBalanced}
use Rattle.cb_cut.proofs.Gained.{flows_at}
use Rattle.cb_cut.proofs.balance.first_unbalanced.Goals as goal

pub amount-requires-clause-within : goal.amount-requires-clause-within
amount-requires-clause-within c =
    subst (All (λ edge. edge < length c.args.flow.now.arcs)) (sym c.out_of.ensures)
    (subst (λ n. All (λ edge. edge < n) (edges_at Start c.loop-part.part c.args.dag.now.edges)) (sym c.requires.arcs) (edges_at_below Start c.loop-part.part c.args.dag.now.edges))

pub amount-requires-clause-few : goal.amount-requires-clause-few
amount-requires-clause-few c =
    omega (arith, ap length c.out_of.ensures, length-edges_at Start c.loop-part.part c.args.dag.now.edges, c.parts-parts.ensures.graph.few_edges)

pub amount-requires-in-loop-part-clause-within : goal.amount-requires-in-loop-part-clause-within
amount-requires-in-loop-part-clause-within c =
    subst (All (λ edge. edge < length c.args.flow.now.arcs)) (sym c.into.ensures)
    (subst (λ n. All (λ edge. edge < n) (edges_at Finish c.loop-part.part c.args.dag.now.edges)) (sym c.requires.arcs) (edges_at_below Finish c.loop-part.part c.args.dag.now.edges))

pub amount-requires-in-loop-part-clause-few : goal.amount-requires-in-loop-part-clause-few
amount-requires-in-loop-part-clause-few c =
    omega (arith, ap length c.into.ensures, length-edges_at Finish c.loop-part.part c.args.dag.now.edges, c.parts-parts.ensures.graph.few_edges)

pub returns-then-inflow-outflow : goal.returns-then-inflow-outflow
returns-then-inflow-outflow c = record {
  within = omega arith;
  broken = λ fine. c.if-inflow-outflow.true
      (flows_at c.args.flow.now.sources c.out_of.result.now Start c.loop-part.part c.args.dag.now.edges c.args.flow.now.arcs c.from.result c.source.result c.amount.result
      c.source.ensures c.from.ensures c.out_of.ensures c.amount.ensures.amount c.requires.arcs
      ∙ fine
      ∙ sym (flows_at c.args.flow.now.sinks c.into.result.now Finish c.loop-part.part c.args.dag.now.edges c.args.flow.now.arcs c.from-in-loop-part.result c.sink.result c.amount-in-loop-part.result
      c.sink.ensures c.from-in-loop-part.ensures c.into.ensures c.amount-in-loop-part.ensures.amount c.requires.arcs));
  before = c.loop-part.invariant;
}

pub loop-part-preserved : goal.loop-part-preserved
loop-part-preserved c = below_more (IsBalanced c.args.dag.now.edges c.args.flow.now) c.loop-part.part c.loop-part.invariant
    (sym (flows_at c.args.flow.now.sources c.out_of.result.now Start c.loop-part.part c.args.dag.now.edges c.args.flow.now.arcs c.from.result c.source.result c.amount.result
    c.source.ensures c.from.ensures c.out_of.ensures c.amount.ensures.amount c.requires.arcs)
    ∙ c.if-inflow-outflow.false
    ∙ flows_at c.args.flow.now.sinks c.into.result.now Finish c.loop-part.part c.args.dag.now.edges c.args.flow.now.arcs c.from-in-loop-part.result c.sink.result c.amount-in-loop-part.result
    c.sink.ensures c.from-in-loop-part.ensures c.into.ensures c.amount-in-loop-part.ensures.amount c.requires.arcs)
