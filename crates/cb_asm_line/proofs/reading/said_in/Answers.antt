use Rattle.cb_asm_line.proofs.Lined.{line_read}
use Rattle.cb_asm_line.proofs.reading.said_in.Goals as goal

pub returns : goal.returns
returns c = line_read c.args.line.now c.in_ok-words.words.items c.as_slice.result.now c.statement_of.result c.as_slice.ensures.value c.in_ok-words.ensures.whole c.in_ok-words.ensures.apart c.statement_of.ensures
