use Rattle.cb_asm.proofs.Programs.{none_told, some_told}
use Rattle.cb_asm.proofs.Records.{not_text}
use Rattle.cb_asm.proofs.assembled.is_program.Goals as goal

pub returns-in_default : goal.returns-in_default
returns-in_default c = not_text c.args.text.now (none_told c.in_ok-assembled.field-0 _ _ c.in_ok-assembled.ensures c.in_default.is)
