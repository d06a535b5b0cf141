use Rattle.std.proofs.Common.{length, map}
use Rattle.cb_asm_line.proofs.Worded.{IsCut}
use Rattle.cb_asm_line.proofs.line.words.Given as goal

abbrev pub invariant-loop-word : goal.invariant-loop-word
invariant-loop-word l = IsCut l.initial.rest l.rest (map (λ word. word.now) l.words.items)

abbrev pub decreases-loop-word : goal.decreases-loop-word
decreases-loop-word l = length l.rest
