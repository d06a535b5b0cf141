use Rattle.std.proofs.Common.{[]}
use Rattle.cb_asm_line.specs.Spelling.{type_word}
use Rattle.cb_asm_line.specs.Statements.{IsType}
use Rattle.cb_asm_line.proofs.Switching.{none_read}
use Rattle.cb_asm_line.proofs.frame_words.each_type.Goals as goal

pub returns-in_default : goal.returns-in_default
returns-in_default c =
    let none = rw c.in_default.is at c.in_ok-kind.ensures in
    λ types are. none_read IsType type_word c.args.words.now c.loop-word.word-index (record { ref_ptr = (0, 0); now = [] }) c.loop-word-test.true (λ type is spelled. none type (record { is = is; spelled = spelled })) types are.each are.are
