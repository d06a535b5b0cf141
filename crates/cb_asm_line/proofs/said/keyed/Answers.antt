use Rattle.std.proofs.Common.{inl, inr}
use Rattle.cb_asm_line.proofs.said.keyed.Goals as goal

pub returns-in-None : goal.returns-in-None
returns-in-None c =
    let one = rw c.in_default.is at c.in_ok-statement.ensures in let two = rw c.in_default-2.is at c.in_ok-statement-2.ensures in let three = rw c.in-None.is at c.in_ok-statement-3.ensures in
    λ statement says. elim says [ inl is ↦ one statement is | inr other ↦ elim other [ inl is ↦ two statement is | inr is ↦ three statement is ] ]
