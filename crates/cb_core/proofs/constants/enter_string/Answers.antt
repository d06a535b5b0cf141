use Rattle.std.proofs.Common.{arith}
use Rattle.cb_core.proofs.Named.{may_string, ok_then, string_put}
use Rattle.cb_core.proofs.Making.{string_made}
use Rattle.cb_core.proofs.constants.enter_string.Goals as goal

pub enter_text-requires : goal.enter_text-requires
enter_text-requires c = record { room = omega (arith, c.requires.room); short = c.requires.short }

pub enter-requires : goal.enter-requires
enter-requires c = may_string _ _ _ _ c.requires.room c.in_ok-text.ensures.put

pub returns-clause-put : goal.returns-clause-put
returns-clause-put c = ok_then _ _ _ c.enter.ensures.put (λ index put. string_put _ _ _ _ _ index c.in_ok-text.ensures.put put)

pub returns-clause-made : goal.returns-clause-made
returns-clause-made c = string_made _ _ _ _ _ c.enter.result c.in_ok-text.ensures.made c.enter.ensures.made
