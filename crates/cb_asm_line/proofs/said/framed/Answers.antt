use Rattle.std.proofs.Common.{map}
use Rattle.cb_asm_line.proofs.Keyed.{no_frame}
use Rattle.cb_asm_line.proofs.said.framed.Goals as goal

pub returns-in-None : goal.returns-in-None
returns-in-None c = let none = rw c.in-None.is at c.in_ok-frame.ensures in no_frame c.args.key.now (map (λ word. word.now) c.args.rest.now) none
