use Rattle.std.proofs.Common.{◌∙◌, w64}
use Rattle.std.proofs.lemmas.Int.{to_z-of_z}
use Rattle.cb_natives.proofs.Wraps.{rest_so}
use Rattle.cb_natives.proofs.wrapping.long_rest.Goals as goal
use mir.Val.{SFits}

pub returns : goal.returns
returns c =
    let whole : SFits w64 c.args.whole = c.ranges.whole in
    let one : SFits w64 c.args.one = c.ranges.one in
    let other : SFits w64 c.args.other = c.ranges.other in
    let product : SFits w64 c.long_product.result = record { sfits = c.long_product.type_inv } in
    let result = to_z-of_z w64 c.long_less.result (record { sfits = c.long_less.type_inv }) in
    let times = simp to_z-of_z at c.long_product.ensures in
    let less = simp to_z-of_z at c.long_less.ensures in
    λ number is. rest_so w64 c.args.whole c.args.other number c.args.one c.long_product.result _ (result ∙ less) times is
