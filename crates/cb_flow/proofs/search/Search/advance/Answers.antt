use Rattle.std.proofs.Common.{◌≤◌, arith, inl, inr, subst, sym, below_more, get_or}
use Rattle.std.proofs.lemmas.Bool.{cases_lt}
use Rattle.cb_dag.specs.Flows.{gain_at, negative}
use Rattle.cb_flow.specs.Visits.{IsExplored, part_at}
use Rattle.cb_flow.specs.declared.visit.Visit.{Visit}
use Rattle.cb_flow.proofs.Reaching.{explored_kept}
use Rattle.cb_flow.proofs.Visiting.{grown_on, not_grown}
use Rattle.cb_flow.proofs.search.Search.advance.Goals as goal

pub loop-head-init : goal.loop-head-init
loop-head-init c = (c.requires.before, not_grown c.args.self.now.visits.items c.args.self.now.count c.args.self.now.seen.items, λ x low. absurd (omega (arith, low)), omega arith, λ x from low. absurd (omega (arith, low)), omega arith)

pub loop-head-preserved : goal.loop-head-preserved
loop-head-preserved c = (
  c.expand.ensures.search,
  grown_on c.args.self.now.visits.items c.loop-head.self.visits.items c.expand.new.self.visits.items c.args.self.now.count c.loop-head.self.count c.expand.new.self.count
      c.args.self.now.seen.items c.loop-head.self.seen.items c.expand.new.self.seen.items c.loop-head.invariant.1 c.expand.ensures.grows,
  below_more (λ x. IsExplored c.args.gains.now c.args.graph.now.edges c.args.flow.now c.expand.new.self.seen.items (part_at c.expand.new.self.visits.items x)) c.loop-head.head
      (λ x low.
      subst (λ (v : Visit). IsExplored c.args.gains.now c.args.graph.now.edges c.args.flow.now c.expand.new.self.seen.items v.part) (sym (c.expand.ensures.grows.same x (omega (arith, low, c.loop-head.invariant.3))))
      (explored_kept c.args.gains.now c.args.graph.now.edges c.args.flow.now c.loop-head.self.seen.items c.expand.new.self.seen.items (part_at c.loop-head.self.visits.items x)
      c.expand.ensures.grows.still (c.loop-head.invariant.2 x low)))
      (subst (λ (v : Visit). IsExplored c.args.gains.now c.args.graph.now.edges c.args.flow.now c.expand.new.self.seen.items v.part) (sym (c.expand.ensures.grows.same c.loop-head.head (omega arith)))
      c.expand.ensures.explored),
  omega (arith, c.expand.ensures.grows.more),
  λ x from low.
      subst (λ (v : Visit). negative (gain_at c.args.gains.now v.part) ≤ get_or c.args.flow.now.sinks v.part 0) (sym (c.expand.ensures.grows.same x low))
      (elim (cases_lt x c.loop-head.looked) [ inl l ↦ c.loop-head.invariant.4 x from l | inr p ↦ c.in_default.ensures.full x p low ]),
  omega (arith, c.expand.ensures.grows.more),
)

pub returns-clause-explored : goal.returns-clause-explored
returns-clause-explored c = λ x low. c.loop-head.invariant.2 x (omega (arith, low, c.loop-head-test.false))
