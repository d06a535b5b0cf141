use Rattle.cb_classfile.proofs.Failing.{handed}
use Rattle.cb_classfile.proofs.Tabling.{whole_alone, whole_lacks, whole_left}
use Rattle.cb_classfile.proofs.table.whole_table.Goals as goal

pub returns-in_err-entries : goal.returns-in_err-entries
returns-in_err-entries g c = handed _ _ _ _ c.from_residual.ensures (whole_lacks _ _ c.in_err-entries.ensures)

pub returns-in-empty : goal.returns-in-empty
returns-in-empty g c = whole_alone _ _ _ _ c.in_ok-entries.ensures c.in-empty.len_below

pub returns-in_default : goal.returns-in_default
returns-in_default g c = whole_left _ _ _ _ c.in_ok-entries.ensures c.in_default.len_at_least
