use Rattle.std.proofs.Common.{map}
use Rattle.cb_asm_line.specs.Said.{SaysCatch}
use Rattle.cb_asm_line.proofs.Counted.{four_read}
use Rattle.cb_asm_line.proofs.lines_said.catch_of.Goals as goal

pub returns-in-Some : goal.returns-in-Some
returns-in-Some c = four_read SaysCatch (map (λ word. word.now) c.args.words.now) c.in-Some.start.now c.in-Some.end.now c.in-Some.handler.now c.in-Some.class.now c.catch_line.result c.in-Some.ensures c.catch_line.ensures
