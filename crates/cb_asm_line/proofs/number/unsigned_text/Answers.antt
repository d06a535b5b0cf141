use Rattle.std.proofs.Common.{arith, ◌≡◌, Ok}
use Rattle.std.proofs.lemmas.Fmt.{parse-decimal}
use Rattle.cb_asm_line.proofs.number.unsigned_text.Goals as goal

pub returns-in-Err : goal.returns-in-Err
returns-in-Err c = λ number below is.
    let read : c.parse.result ≡ Ok number = parse-decimal 64 number _ _ below below is c.parse.ensures.value.0 in
    grind (arith, read, c.in-Err.is)

pub returns-in-Ok-2 : goal.returns-in-Ok-2
returns-in-Ok-2 c = λ number below is.
    let read : c.parse.result ≡ Ok number = parse-decimal 64 number _ _ below below is c.parse.ensures.value.0 in
    grind (arith, read, c.in-Ok.is, c.if-is_decimal.false, c.is_decimal.ensures)
