use Rattle.std.proofs.Common.{inr, refl, ap}
use Rattle.cb_names.specs.Types.{element_of}
use Rattle.cb_names.proofs.types.FieldType.is_reference.Goals as goal

pub returns-in-Class : goal.returns-in-Class
returns-in-Class c = (λ _. inr (_, ap element_of c.in-Class.is), λ _. refl)
