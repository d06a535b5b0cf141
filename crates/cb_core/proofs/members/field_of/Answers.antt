use Rattle.cb_core.proofs.Making.{variable_made}
use Rattle.cb_core.proofs.members.field_of.Goals as goal

pub returns-clause-made : goal.returns-clause-made
returns-clause-made c = variable_made _ _ _ _ _ _ c.in_ok-name.ensures.made c.in_ok-descriptor.ensures.made
