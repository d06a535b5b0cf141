use Rattle.std.proofs.Common.{drop}
use Rattle.cb_verify.proofs.Declaring.{IsDeclared}
use Rattle.cb_verify.proofs.expansion.Declared.of.Given as goal

abbrev pub invariant-loop-frame : goal.invariant-loop-frame
invariant-loop-frame l = IsDeclared l.method l.previous l.laid (drop l.frame-index l.method.body.frames) l.frames
