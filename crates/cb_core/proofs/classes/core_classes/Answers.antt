use Rattle.std.proofs.Common.{refl}
use Rattle.std.proofs.lemmas.Result.{IfOk-weaker}
use Rattle.cb_core.proofs.Parted.{records_made, all_readable, are_library, rows_sound}
use Rattle.cb_core.proofs.classes.core_classes.Goals as goal

pub records_of-requires : goal.records_of-requires
records_of-requires c = rows_sound _ refl

pub returns-clause-records : goal.returns-clause-records
returns-clause-records c = IfOk-weaker c.records_of.result _ _ (λ classes built. are_library _ classes refl built) c.records_of.ensures.built

pub returns-clause-readable : goal.returns-clause-readable
returns-clause-readable c = IfOk-weaker c.records_of.result _ _ (λ classes built. all_readable _ classes refl built) c.records_of.ensures.built

pub returns-clause-made : goal.returns-clause-made
returns-clause-made c = IfOk-weaker c.records_of.result _ _ (λ classes made. records_made _ classes refl made) c.records_of.ensures.made
