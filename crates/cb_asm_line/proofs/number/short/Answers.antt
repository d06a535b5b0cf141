use Rattle.std.proofs.Common.{arith, ◌≡◌, ◌∙◌, sym}
use Rattle.std.proofs.lemmas.Int.{ints}
use Rattle.cb_asm_line.proofs.Signed.{short_fits, signed_same}
use Rattle.cb_asm_line.proofs.number.short.Goals as goal

pub returns-in-Some-2 : goal.returns-in-Some-2
returns-in-Some-2 c = λ number fits is.
    let same : c.in-Some.number ≡ number = signed_same c.in-Some.number number (grind (arith, ints)) (short_fits number fits) (sym c.in-Some.ensures ∙ is) in
    grind (arith, ints, same, fits, c.if-number-from.false)

pub returns-in-Some-2-2 : goal.returns-in-Some-2-2
returns-in-Some-2-2 c = λ number fits is.
    let same : c.in-Some.number ≡ number = signed_same c.in-Some.number number (grind (arith, ints)) (short_fits number fits) (sym c.in-Some.ensures ∙ is) in
    grind (arith, ints, same, fits, c.if-from-number.false)
