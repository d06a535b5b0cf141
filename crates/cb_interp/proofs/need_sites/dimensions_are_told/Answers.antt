use Rattle.cb_interp.proofs.TurnsNeedSites.{site_is}
use Rattle.cb_interp.proofs.need_sites.dimensions_are_told.Goals as goal

pub returns : goal.returns
returns c = λ program linked fits. site_is program linked fits c.spelled_rises.ensures
