use Rattle.std.proofs.Common.{refl}
use Rattle.cb_points_to.proofs.Solved.{solving_on}
use Rattle.cb_points_to.proofs.solver.look_at_waiting.Goals as goal

pub loop-member-preserved : goal.loop-member-preserved
loop-member-preserved c =
    solving_on c.args.constraints.now c.loop-member.looked c.loop-member.web _ c.in-Some.member refl refl c.in-Some.ensures.items c.loop-member.invariant c.look.new.looked c.look.new.web c.in_ok-look.ensures
