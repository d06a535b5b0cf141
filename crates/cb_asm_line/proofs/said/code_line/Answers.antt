use Rattle.std.proofs.Common.{map}
use Rattle.cb_asm_line.proofs.Keyed.{no_code}
use Rattle.cb_asm_line.proofs.said.code_line.Goals as goal

pub returns-in-None : goal.returns-in-None
returns-in-None c = let none = rw c.in-None.is at c.in_ok-line.ensures in no_code (map (λ word. word.now) c.args.words.now) none
