use Rattle.cb_points_to.specs.Webs.{Passing}
use Rattle.cb_points_to.proofs.expand.pass_arguments.Given as goal

abbrev pub invariant-loop-at : goal.invariant-loop-at
invariant-loop-at l = Passing l.constraints l.looked l.initial.web l.web l.given l.taken l.at
