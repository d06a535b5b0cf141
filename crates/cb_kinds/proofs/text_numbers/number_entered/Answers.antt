use Rattle.std.proofs.Common.{◌≡◌, ◌∙◌, ap, sym, true, Some}
use Rattle.std.specs.List.{list_any}
use Rattle.cb_kinds.specs.Texts.{same_text}
use Rattle.cb_kinds.proofs.NumberedTexts.{among_last, number_among}
use Rattle.cb_kinds.proofs.text_numbers.number_entered.Goals as goal

pub returns-clause-number : goal.returns-clause-number
returns-clause-number c =
    let there : list_any (same_text c.args.text.now) c.enter.new.self ≡ true = ap (list_any (same_text c.args.text.now)) c.in_ok-enter.ensures.entered ∙ among_last c.args.texts.now c.args.text.now in
    number_among c.enter.new.self c.args.text.now there ∙ ap Some (sym c.kind_number.ensures)
