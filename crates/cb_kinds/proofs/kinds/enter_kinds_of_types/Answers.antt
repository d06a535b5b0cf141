use Rattle.std.proofs.Common.{◌∙◌, ◌∷◌, ap, sym}
use Rattle.std.specs.List.{flat_map}
use Rattle.cb_kinds.specs.Descriptors.{all_types, sign_of, signs, types_of}
use Rattle.cb_kinds.specs.Kinds.{kinds_of_type}
use Rattle.cb_kinds.specs.Texts.{entered_all}
use Rattle.cb_kinds.proofs.EnteredTexts.{entered_append}
use Rattle.cb_kinds.proofs.kinds.enter_kinds_of_types.Goals as goal

pub loop-sign-preserved-in_ok-enter_kinds_of_type : goal.loop-sign-preserved-in_ok-enter_kinds_of_type
loop-sign-preserved-in_ok-enter_kinds_of_type c =
    let behind = c.in-Some.behind.now in
    ap (λ kinds. entered_all kinds (flat_map kinds_of_type (types_of behind))) c.in_ok-enter_kinds_of_type.ensures
    ∙ sym (entered_append c.loop-sign.kinds (kinds_of_type c.in-ValueType.text.now) (flat_map kinds_of_type (types_of behind)))
    ∙ ap (λ found. entered_all c.loop-sign.kinds (flat_map kinds_of_type (all_types found)))
    (sym (c.in-Some.ensures.signs ∙ ap (λ sign. sign_of sign ∷ signs behind) c.in-ValueType.is))
    ∙ c.loop-sign.invariant
