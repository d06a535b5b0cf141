use Rattle.cb_load.proofs.LoadSame.{not_loaded, one_loaded, one_stop}
use Rattle.cb_load.proofs.law.one_loading.Goals as goal

pub returns : goal.returns
returns c = record { classes = one_loaded; never_both = not_loaded; refusal = one_stop }
