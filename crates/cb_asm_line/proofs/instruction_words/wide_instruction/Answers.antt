use Rattle.std.proofs.Common.{map}
use Rattle.cb_asm_line.proofs.Operating.{not_wide}
use Rattle.cb_asm_line.proofs.instruction_words.wide_instruction.Goals as goal

pub returns-in-None : goal.returns-in-None
returns-in-None c =
    let none = rw c.in-None.is at c.in_ok-instruction.ensures in
    not_wide (map (λ word. word.now) c.args.words.now) c.in-Some.key.now (map (λ word. word.now) c.in-Some.rest.now) c.in-Some.ensures none
