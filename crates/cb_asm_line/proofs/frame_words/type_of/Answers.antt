use Rattle.cb_asm_line.proofs.Typing.{type_told}
use Rattle.cb_asm_line.proofs.frame_words.type_of.Goals as goal

pub returns : goal.returns
returns c = type_told c.args.word.now c.any_type.result c.any_type.ensures
