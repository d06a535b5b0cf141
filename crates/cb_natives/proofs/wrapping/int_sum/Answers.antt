use Rattle.std.proofs.Common.{rules}
use Rattle.std.proofs.lemmas.Int.{wraps}
use Rattle.cb_natives.proofs.wrapping.int_sum.Goals as goal

pub returns : goal.returns
returns c = search (rules, wraps)
