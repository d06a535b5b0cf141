use Rattle.std.proofs.Common.{◌≡◌, take}
use Rattle.cb_asm_line.proofs.label.copied.Given as goal

abbrev pub invariant-loop-digit : goal.invariant-loop-digit
invariant-loop-digit l = l.label ≡ take l.digit-index l.digits
