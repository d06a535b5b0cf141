use Rattle.std.proofs.Common.{sym}
use Rattle.cb_asm_line.proofs.Cutting.{cut_there, lacks_all}
use Rattle.cb_asm_line.proofs.line.cut.Goals as goal

pub returns-in-Some : goal.returns-in-Some
returns-in-Some c = cut_there c.args.unit c.args.text.now c.in-Some.place (sym c.in-Some.ensures.place)

pub returns-in-None : goal.returns-in-None
returns-in-None c = lacks_all c.args.unit c.args.text.now (sym c.in-None.ensures.place)
