use Rattle.std.proofs.Common.{map}
use Rattle.cb_asm_line.specs.Said.{SaysMethod}
use Rattle.cb_asm_line.proofs.Counted.{three_read}
use Rattle.cb_asm_line.proofs.lines_said.method_of.Goals as goal

pub returns-in-Some : goal.returns-in-Some
returns-in-Some c = three_read SaysMethod (map (λ word. word.now) c.args.words.now) c.in-Some.flags.now c.in-Some.name.now c.in-Some.descriptor.now c.method_line.result c.in-Some.ensures c.method_line.ensures
