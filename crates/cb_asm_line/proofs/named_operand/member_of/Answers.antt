use Rattle.std.proofs.Common.{map}
use Rattle.cb_asm_line.specs.SaidCode.{SaysMember}
use Rattle.cb_asm_line.proofs.Counted.{three_read}
use Rattle.cb_asm_line.proofs.named_operand.member_of.Goals as goal

pub returns-in-Some : goal.returns-in-Some
returns-in-Some c = three_read (SaysMember c.args.kind) (map (λ word. word.now) c.args.words.now) c.in-Some.class.now c.in-Some.name.now c.in-Some.descriptor.now c.member_line.result c.in-Some.ensures c.member_line.ensures
