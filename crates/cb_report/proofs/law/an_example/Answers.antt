use Rattle.std.specs.Fmt.{digits}
use Rattle.std.proofs.Common.{refl}
use Rattle.cb_report.proofs.law.an_example.Goals as goal

pub returns : goal.returns
unfolding digits
returns c = record { head = refl; both = refl; none = refl; all = refl }
