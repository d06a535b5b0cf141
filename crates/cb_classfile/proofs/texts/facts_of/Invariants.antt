use Rattle.std.proofs.Common.{◌≡◌, ◌+◌, length}
use Rattle.cb_classfile.specs.Texts.{Describe}
use Rattle.cb_classfile.proofs.texts.facts_of.Given as goal

abbrev pub invariant-loop-index : goal.invariant-loop-index
invariant-loop-index l = (length l.facts.items + 1 ≡ l.index) × Describe l.pool l.facts.items
