use Rattle.std.proofs.Common.{length, map}
use Rattle.cb_asm_line.specs.Quoting.{comma}
use Rattle.cb_asm_line.proofs.Apart.{IsParted}
use Rattle.cb_asm_line.proofs.frame_words.apart.Given as goal

abbrev pub invariant-loop-word : goal.invariant-loop-word
invariant-loop-word l = IsParted comma l.initial.rest l.rest (map (λ word. word.now) l.words.items)

abbrev pub decreases-loop-word : goal.decreases-loop-word
decreases-loop-word l = length l.rest
