use Rattle.cb_asm_record.proofs.Sizes.{table_at, sized, unsized}
use Rattle.cb_asm_record.proofs.size.table_size.Goals as goal

pub returns-in-Table-clause-size : goal.returns-in-Table-clause-size
returns-in-Table-clause-size c = λ default low targets long. rw c.in-Table.is (sized _ _ _ (table_at c.args.pc default low targets _ long) c.switch_size.ensures.size)

pub returns-in-Table-clause-none : goal.returns-in-Table-clause-none
returns-in-Table-clause-none c = λ default low targets long. rw c.in-Table.is (unsized _ _ _ (table_at c.args.pc default low targets _ long) c.switch_size.ensures.none)
