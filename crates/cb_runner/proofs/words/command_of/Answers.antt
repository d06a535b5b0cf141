use Rattle.std.proofs.lemmas.Bool.{false≢true}
use Rattle.cb_runner.proofs.RunSaid.{none_said}
use Rattle.cb_runner.proofs.words.command_of.Goals as goal

pub returns-else-is_assemble : goal.returns-else-is_assemble
returns-else-is_assemble c = none_said _ c.in_default.ensures c.in_default-path_of_list.ensures (λ is. false≢true (c.if-is_assemble.ensures.1 is))
