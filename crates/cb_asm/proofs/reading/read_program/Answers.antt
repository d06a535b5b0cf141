use Rattle.cb_asm.proofs.Programs.{none_told, some_told}
use Rattle.cb_asm.proofs.TextLines.{gathered_ok, not_gathered}
use Rattle.cb_asm.proofs.reading.read_program.Goals as goal

pub returns-in-Some : goal.returns-in-Some
returns-in-Some c =
    let told = some_told c.in_ok-lines.field-0 _ _ c.in-Some.lines c.in_ok-lines.ensures c.in-Some.is in
    gathered_ok c.args.text.now c.in-Some.lines.items c.gather.result told.0 told.1 c.gather.ensures

pub returns-in-None : goal.returns-in-None
returns-in-None c = not_gathered c.args.text.now (none_told c.in_ok-lines.field-0 _ _ c.in_ok-lines.ensures c.in-None.is)
