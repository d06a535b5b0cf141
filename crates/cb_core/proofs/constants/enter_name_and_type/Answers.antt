use Rattle.std.proofs.Common.{arith}
use Rattle.cb_core.proofs.Named.{may_name_and_type, name_and_type_put, ok_then}
use Rattle.cb_core.proofs.Making.{name_and_type_made}
use Rattle.cb_core.proofs.constants.enter_name_and_type.Goals as goal

pub enter_text-requires : goal.enter_text-requires
enter_text-requires c = record { room = omega (arith, c.requires.room); short = c.requires.named.name_short }

pub enter_text-requires-2 : goal.enter_text-requires-2
enter_text-requires-2 c = record { room = omega (arith, c.requires.room, c.in_ok-name.ensures.put.grows.few); short = c.requires.named.descriptor_short }

pub enter-requires : goal.enter-requires
enter-requires c = may_name_and_type _ _ _ _ _ _ _ c.requires.room c.requires.named c.in_ok-name.ensures.put c.in_ok-descriptor.ensures.put

pub returns-clause-put : goal.returns-clause-put
returns-clause-put c = ok_then _ _ _ c.enter.ensures.put (λ index put. name_and_type_put _ _ _ _ _ _ _ _ index c.in_ok-name.ensures.put c.in_ok-descriptor.ensures.put put)

pub returns-clause-made : goal.returns-clause-made
returns-clause-made c = name_and_type_made _ _ _ _ _ _ _ _ c.enter.result c.in_ok-name.ensures.made c.in_ok-descriptor.ensures.made c.enter.ensures.made
