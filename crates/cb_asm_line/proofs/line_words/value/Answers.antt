use Rattle.std.proofs.Common.{arith, codes, ◌≡◌, sym}
use Rattle.cb_asm_line.proofs.Valued.{of_others}
use Rattle.cb_asm_line.proofs.line_words.value.Goals as goal

pub returns : goal.returns
returns c =
    let not_int : c.args.kind.now ≡ codes "int" → ⊥ = λ is. let told = c.is_same.ensures.1 (sym is) in grind (arith, told, c.if-is_same.false) in
    let not_long : c.args.kind.now ≡ codes "long" → ⊥ = λ is. let told = c.is_same-2.ensures.1 (sym is) in grind (arith, told, c.if-is_same-2.false) in
    of_others c.args.kind.now c.args.word.now c.text_or_class.result not_int not_long c.text_or_class.ensures
