use Rattle.std.proofs.Common.{◌∙◌, ap, map, sym}
use Rattle.std.specs.List.{list_any}
use Rattle.cb_kinds.specs.Texts.{entered, same_text}
use Rattle.cb_kinds.proofs.TextKeys.{any_held, entered_there, inserted_held}
use Rattle.cb_kinds.proofs.texts.Texts.enter.Goals as goal

pub returns-then-contains-clause-entered : goal.returns-then-contains-clause-entered
returns-then-contains-clause-entered c =
    sym (entered_there c.args.self.now c.args.text.now
    (sym (c.if-contains.ensures
    ∙ any_held (λ text. text.items) (same_text c.args.text.now) c.self.inside.texts.keys
    ∙ ap (list_any (same_text c.args.text.now)) c.self.view_is)))

pub returns-clause-entered : goal.returns-clause-entered
returns-clause-entered c =
    ap (map (λ text. text.items)) c.in_ok-insert.ensures.keys
    ∙ inserted_held (λ text. text.items) c.in_ok-copy.copy c.self.inside.texts.keys
    ∙ (λ i. entered (c.self.view_is i) (c.in_ok-copy.ensures.items i))
