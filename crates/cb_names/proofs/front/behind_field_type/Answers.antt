use Rattle.std.proofs.Common.{sym, ◌∙◌}
use Rattle.std.proofs.lemmas.Option.{none-some}
use Rattle.cb_names.proofs.TypeTexts.{type_place, element_behind, type_front, made_byte, no_byte}
use Rattle.cb_names.proofs.front.behind_field_type.Goals as goal

pub returns-in_err-brackets : goal.returns-in_err-brackets
returns-in_err-brackets c =
    rw c.from_residual.ensures (λ type rest typed. none-some _ (c.in_err-brackets.ensures ∙ type_place _ type rest typed))

pub returns-in_err-dimensions : goal.returns-in_err-dimensions
returns-in_err-dimensions c =
    rw c.from_residual-in_err-dimensions.ensures (λ type rest typed.
    no_byte _ _ c.try_from.ensures c.in_err-dimensions.ensures.value (element_behind _ type rest _ (sym c.in_ok-brackets.ensures) typed).0)

pub returns-in_err-element : goal.returns-in_err-element
returns-in_err-element c =
    rw c.from_residual-in_err-element.ensures (λ type rest typed.
    c.in_err-element.ensures type.element rest (element_behind _ type rest _ (sym c.in_ok-brackets.ensures) typed).1)

pub returns : goal.returns
returns c =
    let byte = made_byte _ _ _ c.try_from.ensures c.in_ok-dimensions.ensures.value in
    type_front c.args.text.now c.in_ok-brackets.brackets c.in_ok-dimensions.dimensions _ c.in_ok-element.rest.now (sym c.in_ok-brackets.ensures) byte.0 byte.1 c.in_ok-element.ensures
