use Rattle.std.proofs.Common.{w64}
use Rattle.std.proofs.lemmas.Nat.Bits.{bit_at_set_other, bit_at_set_same}
use Rattle.cb_points_to.proofs.bits.with_bit.Goals as goal

pub returns-clause-same : goal.returns-clause-same
returns-clause-same c = bit_at_set_same w64 c.args.word c.args.at c.requires

pub returns-clause-others : goal.returns-clause-others
returns-clause-others c = λ other within apart. bit_at_set_other w64 c.args.word c.args.at c.requires other apart
