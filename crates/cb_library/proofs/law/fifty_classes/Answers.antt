use Rattle.cb_library.proofs.Rowed.{hierarchy, one_name, parents}
use Rattle.cb_library.proofs.law.fifty_classes.Goals as goal

pub returns-clause-one_name : goal.returns-clause-one_name
returns-clause-one_name c = one_name

pub returns-clause-parents : goal.returns-clause-parents
returns-clause-parents c = parents

pub returns-clause-hierarchy : goal.returns-clause-hierarchy
returns-clause-hierarchy c = hierarchy
