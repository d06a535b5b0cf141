use Rattle.std.proofs.Common.{refl, arith}
use Rattle.cb_collector.proofs.law.an_example.Goals as goal

pub returns : goal.returns
returns c = record { room = λ roots. omega arith; none = λ roots fits. omega (arith, fits); numbers = λ roots. refl; learned = refl; unused = refl; counted = refl }
