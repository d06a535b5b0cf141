use Rattle.std.proofs.Common.{◌∙◌, ap, sym, ◌++◌}
use Rattle.cb_asm_line.proofs.frame_words.new_type.Goals as goal

pub returns-in_default : goal.returns-in_default
returns-in_default c = λ type is. c.in_default.ensures is.rest (is.have ∙ ap (λ front. front ++ is.rest) (sym c.as_bytes.ensures.value))
