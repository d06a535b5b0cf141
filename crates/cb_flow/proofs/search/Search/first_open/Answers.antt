use Rattle.std.proofs.Common.{◌≡◌, ◌≤◌, arith, inl, inr, sym, subst, get_or}
use Rattle.std.proofs.lemmas.Bool.{cases_lt}
use Rattle.std.proofs.lemmas.List.{get_or_read}
use Rattle.cb_dag.specs.Flows.{gain_at, negative}
use Rattle.cb_flow.specs.Visits.{no_visit, part_at}
use Rattle.cb_flow.specs.declared.visit.Visit.{Visit}
use Rattle.cb_flow.proofs.search.Search.first_open.Goals as goal

pub loop-x-preserved : goal.loop-x-preserved
loop-x-preserved c = λ x from low. elim (cases_lt x c.loop-x.x) [
  | inl l ↦ c.loop-x.invariant x from l
  | inr p ↦
      let here : x ≡ c.loop-x.x = omega (arith, low, p) in
      let is = get_or_read c.args.self.now.visits.items c.loop-x.x c.index.result.now (omega (arith, c.requires.count)) c.index.ensures no_visit in
      subst (λ n. negative (gain_at c.args.gains.now (part_at c.args.self.now.visits.items n)) ≤ get_or c.args.flow.now.sinks (part_at c.args.self.now.visits.items n) 0) (sym here)
      (subst (λ (v : Visit). negative (gain_at c.args.gains.now v.part) ≤ get_or c.args.flow.now.sinks v.part 0) is c.if-is_open.ensures.full)
]
