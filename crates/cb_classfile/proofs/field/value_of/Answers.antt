use Rattle.std.proofs.Common.{[]}
use Rattle.cb_classfile.specs.Tables.{SpellsU2}
use Rattle.cb_classfile.proofs.Failing.{handed}
use Rattle.cb_classfile.proofs.Tabling.{whole_begins}
use Rattle.cb_classfile.proofs.field.value_of.Goals as goal

pub returns-in_err-index : goal.returns-in_err-index
returns-in_err-index c = handed _ _ _ _ c.from_residual.ensures (λ index spelled. c.in_err-index.ensures index [] (whole_begins SpellsU2 _ index (spelled.fits, spelled.spelled)))
