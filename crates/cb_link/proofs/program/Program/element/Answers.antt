use Rattle.std.proofs.Common.{subst}
use Rattle.cb_link.specs.Having.{IsWhole}
use Rattle.cb_link.specs.InnerTables.{IsKindTable}
use Rattle.cb_link.proofs.KindLaws.{element_within}
use Rattle.cb_link.proofs.program.Program.element.Goals as goal

pub returns-clause-within : goal.returns-clause-within
returns-clause-within c =
    let whole = subst IsWhole c.self.view_is c.self.invariant.whole in
    element_within c.args.self.now c.self.inside.tables.members.kinds (subst (λ program. IsKindTable program c.self.inside.tables.members.kinds) c.self.view_is c.self.invariant.of_kinds)
    c.args.kind c.get.result.now c.get.ensures whole.kinds whole.named
