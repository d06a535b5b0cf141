use Rattle.std.proofs.Common.{sym, subst, IsUtf8}
use Rattle.std.proofs.lemmas.Fmt.{IsAscii-decimal}
use Rattle.std.proofs.lemmas.Str.{IsUtf8-from_ascii}
use Rattle.cb_asm_line.proofs.number.unsigned.Goals as goal

pub returns-in-Err : goal.returns-in-Err
returns-in-Err c = λ number below is.
    let utf8 : IsUtf8 c.args.word.now = subst IsUtf8 (sym is) (IsUtf8-from_ascii _ (IsAscii-decimal number below)) in c.in-Err.ensures.cases.0 utf8
