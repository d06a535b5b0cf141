use Rattle.std.proofs.Common.{◌∙◌, ap₂}
use Rattle.cb_kinds.specs.Texts.{own_number}
use Rattle.cb_link.proofs.Ranks.{none_after}
use Rattle.cb_link.proofs.ranked.signature.Goals as goal

pub returns-in-None : goal.returns-in-None
returns-in-None c =
    c.len.ensures.length ∙ none_after c.args.texts.now (c.text_at.result.now, c.text_at-2.result.now) c.in-None.ensures
    ∙ ap₂ (λ name descriptor. own_number c.args.texts.now (name, descriptor)) c.text_at.ensures c.text_at-2.ensures
