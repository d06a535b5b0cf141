use Rattle.std.proofs.Common.{inl, inr}
use Rattle.cb_asm_line.proofs.named_operand.any_method.Goals as goal

pub returns-in-None : goal.returns-in-None
returns-in-None c =
    let one = rw c.in_default.is at c.in_ok-member.ensures in let other = rw c.in-None.is at c.in_ok-member-2.ensures in
    λ member says. elim says [ inl is ↦ one member is | inr is ↦ other member is ]
