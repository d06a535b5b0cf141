use Rattle.std.proofs.Common.{◌∙◌, ap}
use Rattle.cb_kinds.specs.Texts.{number_of, same_text}
use Rattle.cb_kinds.proofs.TextKeys.{position_held}
use Rattle.cb_kinds.proofs.texts.Texts.number.Goals as goal

pub returns-in_err-place : goal.returns-in_err-place
returns-in_err-place c =
    rw c.from_residual.ensures (c.in_err-place.ensures.index
    ∙ position_held (λ text. text.items) (same_text c.args.text.now) c.self.inside.texts.keys
    ∙ ap (λ texts. number_of texts c.args.text.now) c.self.view_is)

pub returns : goal.returns
returns c =
    c.in_ok-place.ensures.index
    ∙ position_held (λ text. text.items) (same_text c.args.text.now) c.self.inside.texts.keys
    ∙ ap (λ texts. number_of texts c.args.text.now) c.self.view_is
