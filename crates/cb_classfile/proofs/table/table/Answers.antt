use Rattle.cb_classfile.proofs.Failing.{handed}
use Rattle.cb_classfile.proofs.Tabling.{table_counted, table_lacks, table_behind}
use Rattle.cb_classfile.proofs.table.table.Goals as goal

pub returns-in_err-count : goal.returns-in_err-count
returns-in_err-count g c = handed _ _ _ _ c.from_residual.ensures (table_lacks _ _ c.in_err-count.ensures)

pub returns-in_err-entries : goal.returns-in_err-entries
returns-in_err-entries g c = handed _ _ _ _ c.from_residual-in_err-entries.ensures (λ entries rest begins. c.in_err-entries.ensures entries rest (table_behind _ c.in_ok-count.ensures begins))

pub returns : goal.returns
returns g c = table_counted _ c.in_ok-count.ensures c.in_ok-entries.ensures
