use Rattle.std.proofs.Common.{◌*◌, map, take}
use Rattle.cb_asm_line.specs.SaidCode.{ArePairs}
use Rattle.cb_asm_line.proofs.switch_words.pairs_of.Given as goal

abbrev pub invariant-loop-place : goal.invariant-loop-place
invariant-loop-place l = ArePairs (map (λ word. word.now) (take (2 * l.place) l.words)) l.pairs
