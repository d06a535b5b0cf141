use Rattle.cb_library.proofs.Natives.{place, stands, one_place}
use Rattle.cb_library.proofs.law.natives_once.Goals as goal

pub returns : goal.returns
returns c = λ native. (place native, stands native, one_place native)
