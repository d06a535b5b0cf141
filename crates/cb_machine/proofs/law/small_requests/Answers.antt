use Rattle.std.proofs.Common.{refl}
use Rattle.std.specs.Int.{int_wrap}
use Rattle.cb_machine.proofs.law.small_requests.Goals as goal

pub returns : goal.returns
unfolding int_wrap
returns c = refl
