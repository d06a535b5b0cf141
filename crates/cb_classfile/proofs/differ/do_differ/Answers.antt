use Rattle.std.proofs.Common.{sym, ◌∙◌}
use Rattle.std.proofs.lemmas.Bool.{false≢true}
use Rattle.cb_classfile.proofs.Pairs.{differ_more, differ_less}
use Rattle.cb_classfile.proofs.differ.do_differ.Goals as goal

pub returns-then-not-differs_from : goal.returns-then-not-differs_from
returns-then-not-differs_from g c = (
  λ is. absurd (false≢true is),
  λ differ.
      let (apart, others) = differ_less g.M.Named.indices _ c.in-Some.first.now c.in-Some.behind.now (rw c.in-Some.ensures.cases.0 at (c.loop-first.invariant.0 differ)) in
      absurd (false≢true (sym c.if-not-differs_from.true ∙ c.differs_from.ensures.1 apart)),
)

pub loop-first-preserved : goal.loop-first-preserved
loop-first-preserved g c = (
  λ differ. (differ_less g.M.Named.indices _ c.in-Some.first.now c.in-Some.behind.now (rw c.in-Some.ensures.cases.0 at (c.loop-first.invariant.0 differ))).1,
  λ differ. c.loop-first.invariant.1 (rw c.in-Some.ensures.cases.0 (differ_more g.M.Named.indices _ c.in-Some.first.now c.in-Some.behind.now (c.differs_from.ensures.0 c.if-not-differs_from.false) differ)),
)
