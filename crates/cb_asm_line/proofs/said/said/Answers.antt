use Rattle.std.proofs.Common.{inl, inr}
use Rattle.cb_asm_line.proofs.said.said.Goals as goal

pub returns-in-None : goal.returns-in-None
returns-in-None c =
    let one = rw c.in_default.is at c.in_ok-statement.ensures in let other = rw c.in-None.is at c.in_ok-statement-2.ensures in
    λ statement says. elim says [ inl is ↦ one statement is | inr is ↦ other statement is ]
