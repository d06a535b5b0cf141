use Rattle.std.proofs.Common.{subst}
use Rattle.cb_link.specs.Having.{IsWhole}
use Rattle.cb_link.specs.InnerTables.{IsKindTable}
use Rattle.cb_link.proofs.KindLaws.{kind_of_class_is, kind_of_class_low}
use Rattle.cb_link.proofs.program.Program.kind_of_class.Goals as goal

pub returns-clause-kind : goal.returns-clause-kind
returns-clause-kind c =
    kind_of_class_is c.args.self.now c.self.inside.tables.members.kinds (subst (λ program. IsKindTable program c.self.inside.tables.members.kinds) c.self.view_is c.self.invariant.of_kinds)
    c.args.class c.get.result.now c.get.ensures

pub returns-clause-within : goal.returns-clause-within
returns-clause-within c =
    kind_of_class_low c.args.self.now c.self.inside.tables.members.kinds (subst (λ program. IsKindTable program c.self.inside.tables.members.kinds) c.self.view_is c.self.invariant.of_kinds)
    (subst IsWhole c.self.view_is c.self.invariant.whole).kinds c.args.class c.get.result.now c.get.ensures
