use Rattle.std.proofs.Common.{[]}
use Rattle.cb_asm_line.specs.Numbers.{IsDecimal}
use Rattle.cb_asm_line.specs.Operands.{label_word}
use Rattle.cb_asm_line.proofs.Switching.{none_read}
use Rattle.cb_asm_line.proofs.switch_words.labels_of.Goals as goal

pub returns-in_default : goal.returns-in_default
returns-in_default c =
    let none = rw c.in_default.is at c.in_ok-label.ensures in
    λ labels are. none_read IsDecimal label_word c.args.words.now c.loop-word.word-index (record { ref_ptr = (0, 0); now = [] }) c.loop-word-test.true (λ label is spelled. none label (record { digits = is; spelled = spelled })) labels are.each are.are
