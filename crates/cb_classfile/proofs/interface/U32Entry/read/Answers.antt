use Rattle.cb_classfile.proofs.Failing.{handed}
use Rattle.cb_classfile.proofs.interface.U32Entry.read.Goals as goal

pub returns-in_err-index : goal.returns-in_err-index
returns-in_err-index c = handed _ _ _ _ c.from_residual.ensures (λ index rest (first, spelled, split). c.in_err-index.ensures index rest (first, (spelled.fits, spelled.spelled), split))
