use Rattle.std.proofs.Common.{map, take}
use Rattle.cb_asm_line.specs.Numbers.{IsDecimal}
use Rattle.cb_asm_line.specs.Operands.{label_word}
use Rattle.cb_asm_line.proofs.Switching.{IsRead}
use Rattle.cb_asm_line.proofs.switch_words.labels_of.Given as goal

abbrev pub invariant-loop-word : goal.invariant-loop-word
invariant-loop-word l = IsRead IsDecimal label_word (map (λ word. word.now) (take l.word-index l.words)) l.labels
