use Rattle.cb_core.proofs.Making.{member_made}
use Rattle.cb_core.proofs.members.method_of.Goals as goal

pub returns-clause-made : goal.returns-clause-made
returns-clause-made c = member_made _ _ _ _ _ _ _ _ c.in_ok-name.ensures.made c.in_ok-descriptor.ensures.made c.in_ok-body.ensures.made
