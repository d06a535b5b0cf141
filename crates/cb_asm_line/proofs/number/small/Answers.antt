use Rattle.std.proofs.Common.{arith, ◌≡◌, ◌∙◌, sym}
use Rattle.std.proofs.lemmas.Fmt.{decimal_injective}
use Rattle.cb_asm_line.proofs.number.small.Goals as goal

pub returns-in-Some-2 : goal.returns-in-Some-2
returns-in-Some-2 c = λ number below is.
    let same : c.in-Some.number ≡ number = decimal_injective c.in-Some.number number (omega arith) (omega arith) (sym c.in-Some.ensures ∙ is) in
    omega (arith, same, c.if-number-lt65536.false)
