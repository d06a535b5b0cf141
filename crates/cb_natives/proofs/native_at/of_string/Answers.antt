use Rattle.cb_natives.proofs.Places.{past_strings}
use Rattle.std.proofs.Common.{arith, sym}
use Rattle.cb_natives.proofs.native_at.of_string.Goals as goal

pub returns-in_default : goal.returns-in_default
returns-in_default c = sym (past_strings c.args.place (omega (arith, c.in_default)))
