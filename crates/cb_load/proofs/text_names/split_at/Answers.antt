use Rattle.std.proofs.Common.{◌∙◌, ap, sym, arith, ◌+◌, ◌++◌, ◌∷◌, take}
use Rattle.std.proofs.lemmas.List.{take_rest}
use Rattle.cb_load.proofs.NamingTexts.{IsSplit, none_before, split}
use Rattle.cb_load.proofs.text_names.split_at.Goals as goal

pub returns-then-place-text : goal.returns-then-place-text
returns-then-place-text c =
    let parts : IsSplit c.args.unit c.args.text.now c.place_of-place.result = split c.args.unit c.args.text.now c.place_of-place.result c.place_of-place.ensures c.if-place-text.true in
    (parts.before, parts.whole ∙ ap (λ rest. take c.place_of-place.result c.args.text.now ++ c.args.unit ∷ rest) (sym (take_rest c.args.text.now (c.place_of-place.result + 1))))

pub returns-else-place-text : goal.returns-else-place-text
returns-else-place-text c = none_before c.args.unit c.args.text.now (omega arith)
