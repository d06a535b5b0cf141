use Rattle.std.proofs.Common.{◌∙◌, ap, sym}
use Rattle.cb_asm_prefix.specs.Closing.{code_lines_of, last_code}
use Rattle.cb_asm.proofs.Labels.{last_found}
use Rattle.cb_asm.proofs.open_labels.last_code.Goals as goal

pub returns-in-Some-code : goal.returns-in-Some-code
returns-in-Some-code c =
    c.as_slice-in-Some-code.ensures ∙ ap code_lines_of (sym c.in-Some-code.is) ∙ last_found c.as_slice.result.now _ c.in-Some.ensures.value ∙ ap last_code c.as_slice.ensures

pub returns-in-None : goal.returns-in-None
returns-in-None c =
    ap code_lines_of (sym c.in-None.is) ∙ last_found c.as_slice.result.now _ c.in-Some.ensures.value ∙ ap last_code c.as_slice.ensures
