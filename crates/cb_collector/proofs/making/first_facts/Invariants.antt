use Rattle.std.proofs.Common.{◌≡◌}
use Rattle.cb_collector.specs.Known.{facts_at_first}
use Rattle.cb_collector.proofs.making.first_facts.Given as goal

abbrev pub invariant-loop-part : goal.invariant-loop-part
invariant-loop-part l = l.facts ≡ facts_at_first l.part
