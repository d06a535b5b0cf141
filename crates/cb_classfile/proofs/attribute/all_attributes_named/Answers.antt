use Rattle.cb_classfile.proofs.Failing.{handed}
use Rattle.cb_classfile.proofs.Tabling.{whole_alone, whole_lacks, whole_left}
use Rattle.cb_classfile.proofs.attribute.all_attributes_named.Goals as goal

pub returns-in_err-occurrence : goal.returns-in_err-occurrence
returns-in_err-occurrence c = handed _ _ _ _ c.from_residual.ensures (whole_lacks _ _ c.in_err-occurrence.ensures)

pub returns-in-empty : goal.returns-in-empty
returns-in-empty c =
    let (attributes, here, told) = c.in_ok-occurrence.ensures in
    (attributes, whole_alone _ _ _ _ here c.in-empty.len_below, told)

pub returns-in_default : goal.returns-in_default
returns-in_default c =
    let (attributes, here, told) = c.in_ok-occurrence.ensures in
    whole_left _ _ _ _ here c.in_default.len_at_least
