use Rattle.std.proofs.Common.{◌∙◌, ap}
use Rattle.cb_kinds.specs.Texts.{number_of}
use Rattle.cb_kinds.proofs.NumberedItems.{no_text, text_first}
use Rattle.cb_kinds.proofs.text_numbers.TextNumbers.number.Goals as goal

pub returns-in_err-number : goal.returns-in_err-number
returns-in_err-number c =
    rw c.from_residual.ensures (no_text c.self.inside.texts c.self.inside.places c.args.text.now c.self.invariant c.in_err-number.ensures
    ∙ ap (λ texts. number_of texts c.args.text.now) c.self.view_is)

pub returns : goal.returns
returns c =
    c.first.ensures
    ∙ text_first c.self.inside.texts c.self.inside.places c.args.text.now c.in_ok-number.number c.self.invariant c.in_ok-number.ensures
    ∙ ap (λ texts. number_of texts c.args.text.now) c.self.view_is
