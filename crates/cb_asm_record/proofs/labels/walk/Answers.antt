use Rattle.cb_asm_record.proofs.Handed.{handed}
use Rattle.cb_asm_record.proofs.Laying.{astray_label, walked_label, walked_or_astray}
use Rattle.cb_asm_record.proofs.labels.walk.Goals as goal

pub returns-in_err-set-in-Here : goal.returns-in_err-set-in-Here
returns-in_err-set-in-Here c = λ lines walked.
    rw c.in-Here.is (handed _ _ _ _ c.from_residual.ensures (astray_label lines _ _ (c.in_err-set-in-Here.ensures _ walked.mapped)))

pub returns-in_ok-set-in-Here : goal.returns-in_ok-set-in-Here
returns-in_ok-set-in-Here c = λ lines walked.
    let set = c.in_ok-set-in-Here.ensures _ walked.mapped in
    rw c.in-Here.is (walked_label lines _ _ _ _ walked set.0 set.1)

pub returns-in-Do : goal.returns-in-Do
returns-in-Do c = λ lines walked. rw c.in-Do.is (walked_or_astray lines _ _ _ _ walked c.behind.ensures)
