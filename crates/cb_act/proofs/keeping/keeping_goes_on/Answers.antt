use Rattle.std.proofs.Common.{◌≡◌, ◌∙◌, sym, List, Bool, Some}
use Rattle.cb_heap.specs.Closed.{IsClosed}
use Rattle.cb_heap.specs.Kept.{is_held, keep}
use Rattle.cb_machine.specs.Machine.{Machine}
use Rattle.cb_machine.specs.Plans.{Plan, made}
use Rattle.cb_machine.specs.Steps.{plan}
use Rattle.cb_plain.specs.State.{State}
use Rattle.cb_act.specs.Keeping.{IsKeeping, kept_after}
use Rattle.cb_act.specs.Steps.{view_of}
use Rattle.cb_act.proofs.KeepLaws.{keep_unseen}
use Rattle.cb_act.proofs.KeptAgain.{keeping_again, stands_again}
use Rattle.cb_act.proofs.KeptCounts.{plan_counts, plan_residents}
use Rattle.cb_act.proofs.KeptStates.{made_marks}
use Rattle.cb_act.proofs.KeptSteps.{plan_kept}
use Rattle.cb_act.proofs.NativesChange.{natives_count, natives_keep}
use Rattle.cb_act.proofs.NativesWithin.{natives_name_kept, natives_within}
use Rattle.cb_act.proofs.NumbersNamed.{has_numbers}
use Rattle.cb_act.proofs.WithinSteps.{plan_within}
use Rattle.cb_act.proofs.keeping.keeping_goes_on.Goals as goal

again : (machine : Machine) (residents : List Bool) (state : State) (own : Plan) → IsKeeping residents state → plan machine state ≡ Some own → IsClosed (view_of (made own))
    → IsKeeping (kept_after residents own) (made own)
again machine residents state own keeping is known =
    keeping_again residents state keeping machine (natives_name_kept machine residents state keeping)
    (plan_kept machine (keep residents) (is_held (keep residents state.objects)) state (keep_unseen residents state keeping) (natives_keep machine residents state keeping))
    own is (plan_counts machine state (natives_count machine state) own is) known

pub returns : goal.returns
returns c = record {
  passed = λ ok machine state is. plan_within ok machine state is (has_numbers ok machine.program) (natives_within ok machine state is);
  again = λ machine residents state own keeping is known. again machine residents state own keeping is known;
  stands = λ machine kept state own keeping marks is known.
      stands_again kept own (keeping.count ∙ sym (plan_counts machine state (natives_count machine state) own is))
      (made_marks kept state own (keeping.count ∙ sym (plan_counts machine state (natives_count machine state) own is)) (plan_residents machine state (natives_count machine state) own is) marks)
      (again machine kept state own keeping is known);
}
