use Rattle.std.proofs.Common.{◌∙◌, ap, subst}
use Rattle.cb_link.specs.InnerKinds.{compared}
use Rattle.cb_link.specs.InnerTables.{IsKindTable}
use Rattle.cb_link.proofs.KindLaws.{instance_is, inner_within}
use Rattle.cb_link.proofs.program.Program.instance.Goals as goal

pub is_instance-requires-clause-one : goal.is_instance-requires-clause-one
is_instance-requires-clause-one c =
    inner_within c.args.self.now c.self.inside.tables.members.kinds (subst (λ program. IsKindTable program c.self.inside.tables.members.kinds) c.self.view_is c.self.invariant.of_kinds)
    c.args.kind c.get-one.result.now c.get-one.ensures

pub is_instance-requires-clause-other : goal.is_instance-requires-clause-other
is_instance-requires-clause-other c =
    inner_within c.args.self.now c.self.inside.tables.members.kinds (subst (λ program. IsKindTable program c.self.inside.tables.members.kinds) c.self.view_is c.self.invariant.of_kinds)
    c.args.of c.get-other.result.now c.get-other.ensures

pub returns : goal.returns
returns c =
    c.is_below.ensures ∙ ap (compared c.get-one.result.now c.get-other.result.now) c.is_instance.ensures
    ∙ instance_is c.args.self.now c.self.inside.tables.members.kinds (subst (λ program. IsKindTable program c.self.inside.tables.members.kinds) c.self.view_is c.self.invariant.of_kinds)
    c.args.kind c.get-one.result.now c.get-one.ensures c.args.of c.get-other.result.now c.get-other.ensures
