use Rattle.std.proofs.Common.{◌∙◌, arith}
use Rattle.cb_asm.proofs.Programs.{no_methods, none_told}
use Rattle.cb_asm.proofs.gathering.methods.Goals as goal

pub returns-in_default : goal.returns-in_default
returns-in_default c = λ others whole are.
    no_methods c.methods.methods others c.methods.lines.items c.methods.invariant.1 whole (are ∙ c.methods.invariant.0) (λ empty. grind (arith, c.methods-test.ensures, empty)) (none_told c.in_ok-method.field-0 _ _ c.in_ok-method.ensures c.in_default.is)
