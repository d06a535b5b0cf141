use Rattle.std.proofs.Common.{length, subst}
use Rattle.cb_link.specs.InnerCounts.{HasField}
use Rattle.cb_link.specs.Having.{IsBelow}
use Rattle.cb_link.proofs.FieldPlaces.{has_field}
use Rattle.cb_link.proofs.MembersAmong.{field_within}
use Rattle.cb_link.proofs.base.Base.linked_field.Goals as goal

pub returns-clause-placed : goal.returns-clause-placed
returns-clause-placed c =
    subst (λ program. HasField program c.args.number c.get.result.now) c.self.view_is
    (has_field _ c.args.number c.get.result.now c.self.invariant.fields c.get.ensures)

pub returns-clause-within : goal.returns-clause-within
returns-clause-within c =
    subst (λ program. IsBelow (length program.kinds) c.get.result.now.basic) c.self.view_is
    (field_within _ c.self.invariant c.args.number c.get.result.now (has_field _ c.args.number c.get.result.now c.self.invariant.fields c.get.ensures))
