use Rattle.std.proofs.Common.{◌∙◌, sym}
use Rattle.cb_heap.specs.Kept.{is_held, keep}
use Rattle.cb_act.proofs.KeepLaws.{keep_unseen}
use Rattle.cb_act.proofs.KeptCounts.{plan_counts, plan_residents}
use Rattle.cb_act.proofs.KeptStates.{made_kept, made_marks, step_kept}
use Rattle.cb_act.proofs.NativesChange.{natives_count, natives_keep}
use Rattle.cb_act.proofs.KeptSteps.{plan_kept}
use Rattle.cb_act.proofs.keeping.next_states_are_kept.Goals as goal

pub returns : goal.returns
returns c = record {
  counted = λ machine state own is. plan_counts machine state (natives_count machine state) own is;
  marked = λ machine state own is. plan_residents machine state (natives_count machine state) own is;
  there = λ machine kept state own same marks is.
      made_marks kept state own (same ∙ sym (plan_counts machine state (natives_count machine state) own is)) (plan_residents machine state (natives_count machine state) own is) marks;
  made = λ residents own same. made_kept residents own same;
  stepped = λ machine residents state keeping.
      step_kept machine residents state keeping.count
      (plan_kept machine (keep residents) (is_held (keep residents state.objects)) state (keep_unseen residents state keeping) (natives_keep machine residents state keeping))
      (λ own is. plan_counts machine state (natives_count machine state) own is);
}
