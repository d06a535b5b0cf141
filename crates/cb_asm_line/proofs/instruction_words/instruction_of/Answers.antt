use Rattle.std.proofs.Common.{inl, inr}
use Rattle.cb_asm_line.proofs.instruction_words.instruction_of.Goals as goal

pub returns-in-None : goal.returns-in-None
returns-in-None c =
    let one = rw c.in_default.is at c.in_ok-instruction.ensures in let other = rw c.in-None.is at c.in_ok-instruction-2.ensures in
    λ instruction says. elim says [ inl is ↦ one instruction is | inr is ↦ other instruction is ]
