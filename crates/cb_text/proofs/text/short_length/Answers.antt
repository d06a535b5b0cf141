use Rattle.std.proofs.Common.{arith, ap, ◌∙◌, length}
use Rattle.std.proofs.lemmas.List.{take_all}
use Rattle.std.proofs.lemmas.List.Folds.{length-flat_map-take}
use Rattle.cb_text.specs.Text.{unit_bytes, text_bytes}
use Rattle.cb_text.proofs.Spelling.{are_units}
use Rattle.cb_text.proofs.text.short_length.Goals as goal

pub returns-in_err-size-clause-none : goal.returns-in_err-size-clause-none
returns-in_err-size-clause-none c = λ none short.
    let longer = length-flat_map-take unit_bytes c.args.units.now c.loop-unit.unit-index 0 c.loop-unit-test.true in
    c.in_err-size.ensures (omega (arith, longer, short, c.loop-unit.invariant, c.spelled_length.ensures))

pub returns-clause-short : goal.returns-clause-short
returns-clause-short c =
    let all = take_all c.loop-unit.unit-index c.args.units.now c.loop-unit-test.false in
    (are_units c.args.units.now (λ i. omega (arith, c.type_inv.units i)), c.loop-unit.invariant ∙ ap (λ units. length (text_bytes units)) all)
