use Rattle.cb_points_to.proofs.Solved.{least}
use Rattle.cb_points_to.proofs.solver.solve.Goals as goal

pub returns-clause-least : goal.returns-clause-least
returns-clause-least c =
    least c.args.constraints.now c.look_at_waiting.new.looked c.look_at_waiting.new.web c.in_ok-look_at_waiting.ensures.solving c.in_ok-look_at_waiting.ensures.waiting
