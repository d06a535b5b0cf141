use Rattle.std.proofs.Common.{[], arith}
use Rattle.cb_asm_line.proofs.Switching.{not_there, odd_words}
use Rattle.cb_asm_line.proofs.switch_words.pairs_of.Goals as goal

pub returns-then-words-eq1 : goal.returns-then-words-eq1
returns-then-words-eq1 c = λ pairs are. odd_words c.args.words.now pairs c.if-words-eq1.true are

pub returns-in_default : goal.returns-in_default
returns-in_default c =
    let none = rw c.in_default.is at c.in_ok-pair.ensures in let within = c.loop-place-test.true in
    λ pairs are. not_there c.args.words.now c.loop-place.place (record { ref_ptr = (0, 0); now = [] }) pairs (omega (arith, within)) none are
