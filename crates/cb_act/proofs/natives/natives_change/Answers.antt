use Rattle.cb_act.proofs.NativesChange.{natives_change, natives_count, natives_keep}
use Rattle.cb_act.proofs.natives.natives_change.Goals as goal

pub returns : goal.returns
returns c = record {
  changed = λ machine change test state unseen native arguments held. natives_change machine change test state unseen native arguments held;
  kept = λ machine residents state keeping native arguments held. natives_keep machine residents state keeping native arguments held;
  counted = λ machine state native arguments held. natives_count machine state native arguments held;
}
