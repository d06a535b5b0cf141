use Rattle.cb_load.proofs.LoadSupported.{loaded_supported}
use Rattle.cb_load.proofs.law.loaded_supported.Goals as goal

pub returns : goal.returns
returns c = loaded_supported
