use Rattle.cb_flow.specs.Networks.{AreGains}
use Rattle.cb_graph_cases.proofs.gains.gains_of.Given as goal

abbrev pub invariant-loop-part : goal.invariant-loop-part
invariant-loop-part l = AreGains l.part l.gains.items
