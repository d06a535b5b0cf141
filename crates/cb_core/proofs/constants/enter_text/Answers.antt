use Rattle.cb_core.proofs.Named.{may_text, ok_then, text_put}
use Rattle.std.proofs.Common.{◌≡◌, subst, ℕ, List}
use Rattle.cb_core.proofs.Making.{text_made}
use Rattle.cb_core.proofs.constants.enter_text.Goals as goal

pub enter-requires : goal.enter-requires
enter-requires c = may_text _ _ _ c.requires.room c.requires.short c.in_ok-units.ensures

pub returns-clause-put : goal.returns-clause-put
returns-clause-put c = ok_then _ _ _ c.enter.ensures.put (λ index put. text_put _ _ _ _ index c.in_ok-units.ensures put)

pub returns-clause-made : goal.returns-clause-made
returns-clause-made c = text_made _ _ _ _ c.enter.result c.in_ok-units.ensures c.enter.ensures.made
