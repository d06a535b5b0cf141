use Rattle.std.proofs.Common.{◌≡◌, ◌<◌, arith, true, get_or, below_more}
use Rattle.std.proofs.lemmas.Bool.{both_ways}
use Rattle.cb_dag.specs.Flows.{gain_at, positive}
use Rattle.cb_dag.specs.Marks.{marked}
use Rattle.cb_flow.proofs.Reaching.{none_visited}
use Rattle.cb_flow.proofs.search.Search.start.Goals as goal

pub loop-part-init : goal.loop-part-init
loop-part-init c = (
  λ edges. none_visited c.args.gains.now edges c.args.flow.now c.args.self.now.visits.items c.unmark.new.seen.items c.requires.visit_each (omega (arith, c.unmark.ensures.len, c.requires.seen_each)),
  λ part on. absurd (both_ways (marked c.unmark.new.seen.items part) (c.unmark.ensures.none part) on),
  λ earlier low more. absurd (omega (arith, low)),
)

pub loop-part-preserved : goal.loop-part-preserved
loop-part-preserved c = (
  c.enter.ensures.search,
  c.enter.ensures.grows.visited c.loop-part.invariant.1,
  below_more (λ earlier. get_or c.args.flow.now.sources earlier 0 < positive (gain_at c.args.gains.now earlier) → marked c.enter.new.self.seen.items earlier ≡ true) c.loop-part.part
      (λ earlier low more. c.enter.ensures.grows.still earlier (c.loop-part.invariant.2 earlier low more))
      c.enter.ensures.open,
)
