use Rattle.std.proofs.Common.{◌∙◌, ap, sym}
use Rattle.std.specs.Prelude.{slice_get}
use Rattle.cb_link.proofs.SpecialNames.{superclass_low}
use Rattle.cb_link.proofs.special.from_superclass.Goals as goal

pub from_class-requires : goal.from_class-requires
from_class-requires c =
    superclass_low c.args.resolver.now c.args.class c.in-Some.above c.class.result.now
    (ap (λ classes. slice_get classes c.args.class) (sym c.hierarchy.ensures) ∙ c.class.ensures) c.in-Some.is
