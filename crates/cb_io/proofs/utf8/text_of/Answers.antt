use Rattle.std.proofs.Common.{◌++◌, string_bytes, sym, ap, ◌∙◌, append-nil}
use Rattle.cb_io.specs.Utf8.{utf8}
use Rattle.cb_io.proofs.Characters.{no_bytes}
use Rattle.cb_io.proofs.utf8.text_of.Goals as goal

pub returns : goal.returns
returns c =
    let text = string_bytes c.loop-character.text in
    sym (append-nil text) ∙ ap (λ rest. text ++ rest) (sym no_bytes ∙ sym (ap utf8 c.in_default.ensures.read)) ∙ sym c.loop-character.invariant
