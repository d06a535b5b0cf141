use Rattle.std.proofs.Common.{inl, inr}
use Rattle.cb_asm_line.proofs.frame_words.any_type.Goals as goal

pub returns-in-None : goal.returns-in-None
returns-in-None c =
    let object = rw c.in_default-2.is at c.in_ok-object.ensures in let made = rw c.in-None.is at c.in_ok-made.ensures in
    λ type says. elim says [ inl is ↦ c.in_default.ensures type is | inr other ↦ elim other [ inl is ↦ object type is | inr is ↦ made type is ] ]
