use Rattle.std.proofs.Common.{map, take}
use Rattle.cb_asm_line.specs.Spelling.{type_word}
use Rattle.cb_asm_line.specs.Statements.{IsType}
use Rattle.cb_asm_line.proofs.Switching.{IsRead}
use Rattle.cb_asm_line.proofs.frame_words.each_type.Given as goal

abbrev pub invariant-loop-word : goal.invariant-loop-word
invariant-loop-word l = IsRead IsType type_word (map (λ word. word.now) (take l.word-index l.words)) l.types
