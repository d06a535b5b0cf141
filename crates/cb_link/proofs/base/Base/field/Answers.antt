use Rattle.std.proofs.Common.{subst}
use Rattle.cb_link.specs.InnerPlaces.{HasField}
use Rattle.cb_link.proofs.PlacedLaws.{has_field}
use Rattle.cb_link.proofs.base.Base.field.Goals as goal

pub returns : goal.returns
returns c =
    subst (λ program. HasField program c.args.field c.get.result.now) c.self.view_is
    (has_field _ c.args.field c.get.result.now c.self.invariant.fields c.get.ensures)
