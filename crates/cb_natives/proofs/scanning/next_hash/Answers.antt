use Rattle.std.proofs.Common.{◌∙◌, ap, pos, ◌+ℤ◌, w32}
use Rattle.std.proofs.lemmas.Int.{to_z-of_z}
use Rattle.std.specs.Int.{int_wrap}
use Rattle.cb_natives.proofs.Wraps.{hash_so}
use Rattle.cb_natives.proofs.scanning.next_hash.Goals as goal
use mir.Val.{SFits}

pub returns : goal.returns
returns c =
    let sum : SFits w32 c.args.sum = c.ranges.sum in
    let product : SFits w32 c.int_product.result = record { sfits = c.int_product.type_inv } in
    let unit : SFits w32 c.from.result = record { sfits = c.from.type_inv } in
    let result = to_z-of_z w32 c.int_sum.result (record { sfits = c.int_sum.type_inv }) in
    let times = simp to_z-of_z at c.int_product.ensures in
    let plus = simp to_z-of_z at c.int_sum.ensures in
    λ before is. hash_so c.args.sum before (pos c.args.unit) c.int_product.result _ is times (result ∙ plus ∙ ap (λ unit. int_wrap w32 (c.int_product.result +ℤ unit)) c.from.ensures)
