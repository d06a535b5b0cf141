use Rattle.std.proofs.Common.{arith, ◌+◌, ◌*◌, length, sym, ◌∙◌, subst}
use Rattle.std.proofs.lemmas.Result.{on_ok_weaker}
use Rattle.cb_dag.specs.Parts.{AreWithin}
use Rattle.cb_dag.proofs.Laws.{none_more}
use Rattle.cb_cut.specs.Faults.{IsBalanced, IsFirstNot, IsWithinCapacity}
use Rattle.cb_cut.proofs.Faulty.{capacities, closed_from, refused, shown, sink_over, source_over, unequal}
use Rattle.cb_cut.proofs.checking.check.Goals as goal

pub first_source_over-requires-clause-few : goal.first_source_over-requires-clause-few
first_source_over-requires-clause-few c = omega (arith, c.requires.gain_each, c.parts-parts.ensures.parts)

pub first_sink_over-requires-clause-few : goal.first_sink_over-requires-clause-few
first_sink_over-requires-clause-few c = omega (arith, c.requires.gain_each, c.parts-parts.ensures.parts)

pub returns-in-Some-first_source_over-clause-fault : goal.returns-in-Some-first_source_over-clause-fault
returns-in-Some-first_source_over-clause-fault c = (
  closed_from c.args.dag.now.edges c.args.set.now c.in_default.ensures,
  source_over c.args.gains.now c.args.flow.now c.in-Some-first_source_over.arc c.in-Some-first_source_over.ensures,
)

pub returns-in-Some-first_sink_over-clause-fault : goal.returns-in-Some-first_sink_over-clause-fault
returns-in-Some-first_sink_over-clause-fault c = (
  closed_from c.args.dag.now.edges c.args.set.now c.in_default.ensures,
  subst (λ n. IsFirstNot (IsWithinCapacity c.args.gains.now c.args.flow.now) (2 * length c.args.gains.now) (n + c.in-Some-first_sink_over.part)) (sym c.parts.ensures.parts)
      (sink_over c.args.gains.now c.args.flow.now c.args.dag.now.parts c.in-Some-first_sink_over.part c.requires.gain_each c.in_default-first_source_over.ensures c.in-Some-first_sink_over.ensures),
)

pub returns-in-Some-first_unbalanced-clause-fault : goal.returns-in-Some-first_unbalanced-clause-fault
returns-in-Some-first_unbalanced-clause-fault c = (
  closed_from c.args.dag.now.edges c.args.set.now c.in_default.ensures,
  capacities c.args.gains.now c.args.flow.now c.in_default-first_source_over.ensures c.in_default-first_sink_over.ensures,
  subst (λ n. IsFirstNot (IsBalanced c.args.dag.now.edges c.args.flow.now) n c.in-Some-first_unbalanced.part) (sym c.requires.gain_each) c.in-Some-first_unbalanced.ensures,
)

pub returns-clause-certificate : goal.returns-clause-certificate
returns-clause-certificate c =
    on_ok_weaker c.compare.result
    (shown c.args.gains.now c.args.dag.now.edges c.args.set.now c.args.flow.now
    (closed_from c.args.dag.now.edges c.args.set.now c.in_default.ensures)
    (capacities c.args.gains.now c.args.flow.now c.in_default-first_source_over.ensures c.in_default-first_sink_over.ensures)
    (λ part low. c.in_default-first_unbalanced.ensures part (omega (arith, low, c.requires.gain_each)))
    (c.requires.set_each ∙ sym c.requires.gain_each) (c.requires.source_each ∙ sym c.requires.gain_each) (c.requires.sink_each ∙ sym c.requires.gain_each) c.requires.arc_each)
    c.compare.ensures.ok

pub returns-clause-fault : goal.returns-clause-fault
returns-clause-fault c =
    unequal c.args.gains.now c.args.dag.now.edges c.args.set.now c.args.flow.now
    (closed_from c.args.dag.now.edges c.args.set.now c.in_default.ensures)
    (capacities c.args.gains.now c.args.flow.now c.in_default-first_source_over.ensures c.in_default-first_sink_over.ensures)
    (λ part low. c.in_default-first_unbalanced.ensures part (omega (arith, low, c.requires.gain_each)))
    c.compare.result c.compare.ensures.err

pub returns-clause-refused : goal.returns-clause-refused
returns-clause-refused c = refused c.args.gains.now c.args.dag.now.edges c.args.set.now c.args.flow.now c.compare.result (returns-clause-fault c)

pub returns-clause-greatest : goal.returns-clause-greatest
returns-clause-greatest c =
    on_ok_weaker c.compare.result
    (none_more c.args.gains.now c.args.dag.now.edges c.args.set.now c.args.flow.now
    (subst (λ n. AreWithin n c.args.dag.now.edges) (sym c.requires.gain_each) c.parts-parts.ensures.graph.within))
    (returns-clause-certificate c)
