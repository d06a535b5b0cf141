use Rattle.std.proofs.Common.{refl}
use Rattle.cb_beside.proofs.law.ends_alike.Goals as goal

pub returns : goal.returns
returns c = record {
  asks = λ program state input printed. refl;
  ends = λ state input printed. refl;
}
