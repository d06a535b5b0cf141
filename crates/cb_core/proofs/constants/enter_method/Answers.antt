use Rattle.std.proofs.Common.{arith}
use Rattle.cb_core.proofs.Named.{may_method, may_name_method, method_put, ok_then}
use Rattle.cb_core.proofs.Making.{method_made}
use Rattle.cb_core.proofs.constants.enter_method.Goals as goal

pub enter_class-requires : goal.enter_class-requires
enter_class-requires c = record { room = omega (arith, c.requires.room); sound = c.requires.class }

pub enter_name_and_type-requires : goal.enter_name_and_type-requires
enter_name_and_type-requires c = record { room = omega (arith, c.requires.room, c.in_ok-holder.ensures.put.grows.few); named = may_name_method _ _ c.requires.names }

pub enter-requires : goal.enter-requires
enter-requires c = may_method _ _ _ _ _ _ _ _ c.requires.room c.requires.names c.in_ok-holder.ensures.put c.in_ok-member.ensures.put

pub returns-clause-put : goal.returns-clause-put
returns-clause-put c = ok_then _ _ _ c.enter.ensures.put (λ index put. method_put _ _ _ _ _ _ _ _ _ index c.in_ok-holder.ensures.put c.in_ok-member.ensures.put put)

pub returns-clause-made : goal.returns-clause-made
returns-clause-made c = method_made _ _ _ _ _ _ _ _ _ c.enter.result c.in_ok-holder.ensures.made c.in_ok-member.ensures.made c.enter.ensures.made
