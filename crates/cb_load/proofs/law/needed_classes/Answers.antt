use Rattle.cb_load.proofs.ClassesThere.{named_there, superclasses_there}
use Rattle.cb_load.proofs.law.needed_classes.Goals as goal

pub returns : goal.returns
returns c = record { superclasses = superclasses_there; named = named_there }
