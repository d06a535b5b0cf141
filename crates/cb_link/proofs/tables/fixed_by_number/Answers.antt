use Rattle.std.proofs.Common.{◌∙◌, ap, map, sym}
use Rattle.std.proofs.lemmas.Result.{IfOk-weaker}
use Rattle.std.proofs.lemmas.Simd.{map-map}
use Rattle.cb_kinds.specs.Basics.{kind_number}
use Rattle.cb_link.proofs.FixedKinds.{fixed_table}
use Rattle.cb_link.proofs.tables.fixed_by_number.Goals as goal

pub returns : goal.returns
returns c =
    IfOk-weaker c.numbers_of.result _ _ (λ numbers is.
    is ∙ sym (map-map (kind_number c.args.kinds.now) (λ name. name.now) c.as_slice.result.now)
    ∙ ap (map (kind_number c.args.kinds.now)) (ap (map (λ name. name.now)) c.as_slice.ensures ∙ fixed_table)) c.numbers_of.ensures
