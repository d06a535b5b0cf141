use Rattle.cb_act.proofs.NativesWithin.{natives_name_kept, natives_within}
use Rattle.cb_act.proofs.natives.natives_within.Goals as goal

pub returns : goal.returns
returns c = record {
  passed = λ ok machine state is native arguments all. natives_within ok machine state is native arguments all;
  name_kept = λ machine residents state keeping native arguments all. natives_name_kept machine residents state keeping native arguments all;
}
