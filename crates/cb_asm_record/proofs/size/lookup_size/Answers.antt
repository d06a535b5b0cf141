use Rattle.cb_asm_record.proofs.Sizes.{lookup_at, sized, unsized}
use Rattle.cb_asm_record.proofs.size.lookup_size.Goals as goal

pub returns-in-Lookup-clause-size : goal.returns-in-Lookup-clause-size
returns-in-Lookup-clause-size c = λ default pairs long. rw c.in-Lookup.is (sized _ _ _ (lookup_at c.args.pc default pairs _ long) c.switch_size.ensures.size)

pub returns-in-Lookup-clause-none : goal.returns-in-Lookup-clause-none
returns-in-Lookup-clause-none c = λ default pairs long. rw c.in-Lookup.is (unsized _ _ _ (lookup_at c.args.pc default pairs _ long) c.switch_size.ensures.none)
