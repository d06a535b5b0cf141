use Rattle.std.proofs.Common.{◌∙◌, w32}
use Rattle.std.proofs.lemmas.Int.{to_z-of_z}
use Rattle.cb_natives.proofs.Wraps.{rest_so}
use Rattle.cb_natives.proofs.wrapping.int_rest.Goals as goal
use mir.Val.{SFits}

pub returns : goal.returns
returns c =
    let whole : SFits w32 c.args.whole = c.ranges.whole in
    let one : SFits w32 c.args.one = c.ranges.one in
    let other : SFits w32 c.args.other = c.ranges.other in
    let product : SFits w32 c.int_product.result = record { sfits = c.int_product.type_inv } in
    let result = to_z-of_z w32 c.int_less.result (record { sfits = c.int_less.type_inv }) in
    let times = simp to_z-of_z at c.int_product.ensures in
    let less = simp to_z-of_z at c.int_less.ensures in
    λ number is. rest_so w32 c.args.whole c.args.other number c.args.one c.int_product.result _ (result ∙ less) times is
