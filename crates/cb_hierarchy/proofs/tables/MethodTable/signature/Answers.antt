use Rattle.std.proofs.Common.{◌≡◌, ◌<◌, ap, arith, length, map}
use Rattle.std.proofs.lemmas.List.{length-map}
use Rattle.cb_hierarchy.specs.declared.member.Method.{Method}
use Rattle.cb_hierarchy.proofs.RowLaws.{signature_below}
use Rattle.cb_hierarchy.proofs.tables.MethodTable.signature.Goals as goal

pub returns-clause-small : goal.returns-clause-small
returns-clause-small c =
    let below : c.get.result.now.declared.signature < length (map (λ (method : Method). method.declared) c.self.inside.methods) =
    signature_below (λ method. method.declared) c.self.inside.methods _ c.args.number c.get.result.now c.self.invariant.0.signatures c.get.ensures in
    let mapped : length (map (λ (method : Method). method.declared) c.self.inside.methods) ≡ length c.self.inside.methods = length-map c.self.inside.methods (λ method. method.declared) in
    let seen : length c.self.inside.methods ≡ length c.args.self.now = ap length c.self.view_is in
    omega arith
