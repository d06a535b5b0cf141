use Rattle.std.proofs.Common.{map}
use Rattle.cb_asm_line.proofs.Spoken.{said_told}
use Rattle.cb_asm_line.proofs.said.statement_of.Goals as goal

pub returns : goal.returns
returns c = said_told (map (λ word. word.now) c.args.words.now) c.said.result c.said.ensures
