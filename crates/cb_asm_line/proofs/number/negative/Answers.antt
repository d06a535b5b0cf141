use Rattle.std.proofs.Common.{arith, ◌≡◌, ◌∙◌, sym, ◌+◌}
use Rattle.std.proofs.lemmas.Fmt.{decimal_injective}
use Rattle.cb_asm_line.proofs.number.negative.Goals as goal

pub returns-in-Some-2 : goal.returns-in-Some-2
returns-in-Some-2 c = λ below fits is.
    let same : c.in-Some.size ≡ below + 1 = decimal_injective c.in-Some.size (below + 1) (omega arith) (omega arith) (sym c.in-Some.ensures ∙ is) in
    omega (arith, same, c.if-size-le-LEAST_SIZE.false)

pub returns-in-Some-2-2 : goal.returns-in-Some-2-2
returns-in-Some-2-2 c = λ below fits is.
    let same : c.in-Some.size ≡ below + 1 = decimal_injective c.in-Some.size (below + 1) (omega arith) (omega arith) (sym c.in-Some.ensures ∙ is) in
    omega (arith, same, c.if-size-gt0.false)
