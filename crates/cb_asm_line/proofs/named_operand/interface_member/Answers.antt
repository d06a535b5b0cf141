use Rattle.std.proofs.Common.{map}
use Rattle.cb_asm_line.proofs.Operating.{no_interface}
use Rattle.cb_asm_line.proofs.named_operand.interface_member.Goals as goal

pub returns-in-None : goal.returns-in-None
returns-in-None c =
    let none = rw c.in-None.is at c.in_ok-member.ensures in
    no_interface (map (λ word. word.now) c.args.words.now) c.in-Some.key.now (map (λ word. word.now) c.in-Some.rest.now) c.in-Some.ensures none
