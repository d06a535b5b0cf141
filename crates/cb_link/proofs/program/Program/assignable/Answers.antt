use Rattle.std.proofs.Common.{◌∙◌, ap, subst}
use Rattle.cb_link.specs.InnerKinds.{compared}
use Rattle.cb_link.specs.InnerTables.{IsKindTable}
use Rattle.cb_link.proofs.KindLaws.{assignable_is, inner_within}
use Rattle.cb_link.proofs.program.Program.assignable.Goals as goal

pub is_assignable-requires-clause-one : goal.is_assignable-requires-clause-one
is_assignable-requires-clause-one c =
    inner_within c.args.self.now c.self.inside.tables.members.kinds (subst (λ program. IsKindTable program c.self.inside.tables.members.kinds) c.self.view_is c.self.invariant.of_kinds)
    c.args.from c.get-one.result.now c.get-one.ensures

pub is_assignable-requires-clause-other : goal.is_assignable-requires-clause-other
is_assignable-requires-clause-other c =
    inner_within c.args.self.now c.self.inside.tables.members.kinds (subst (λ program. IsKindTable program c.self.inside.tables.members.kinds) c.self.view_is c.self.invariant.of_kinds)
    c.args.to c.get-other.result.now c.get-other.ensures

pub returns : goal.returns
returns c =
    c.is_below.ensures ∙ ap (compared c.get-one.result.now c.get-other.result.now) c.is_assignable.ensures
    ∙ assignable_is c.args.self.now c.self.inside.tables.members.kinds (subst (λ program. IsKindTable program c.self.inside.tables.members.kinds) c.self.view_is c.self.invariant.of_kinds)
    c.args.from c.get-one.result.now c.get-one.ensures c.args.to c.get-other.result.now c.get-other.ensures
