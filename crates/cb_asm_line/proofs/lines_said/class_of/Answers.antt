use Rattle.std.proofs.Common.{map}
use Rattle.cb_asm_line.specs.Said.{SaysClass}
use Rattle.cb_asm_line.proofs.Counted.{four_read}
use Rattle.cb_asm_line.proofs.lines_said.class_of.Goals as goal

pub returns-in-Some : goal.returns-in-Some
returns-in-Some c = four_read SaysClass (map (λ word. word.now) c.args.words.now) c.in-Some.major.now c.in-Some.flags.now c.in-Some.name.now c.in-Some.superclass.now c.class_line.result c.in-Some.ensures c.class_line.ensures
