use Rattle.cb_heap.specs.Kept.{is_held, keep}
use Rattle.cb_act.proofs.KeepLaws.{keep_unseen}
use Rattle.cb_act.proofs.NativesChange.{natives_keep}
use Rattle.cb_act.proofs.KeptSteps.{plan_kept, unwinding_kept}
use Rattle.cb_act.proofs.keeping.steps_are_kept.Goals as goal

pub returns : goal.returns
returns c = record {
  unwound = λ machine residents state keeping. unwinding_kept machine (keep residents) (is_held (keep residents state.objects)) state (keep_unseen residents state keeping);
  planned = λ machine residents state keeping. plan_kept machine (keep residents) (is_held (keep residents state.objects)) state (keep_unseen residents state keeping) (natives_keep machine residents state keeping);
}
