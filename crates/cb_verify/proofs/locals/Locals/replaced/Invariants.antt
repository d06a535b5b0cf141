use Rattle.std.proofs.Common.{◌≡◌, ◌++◌, drop, take}
use Rattle.cb_verify.specs.Frames.{replaced}
use Rattle.cb_verify.proofs.locals.Locals.replaced.Given as goal

abbrev pub invariant-loop-place : goal.invariant-loop-place
invariant-loop-place l = l.all ≡ replaced l.old l.new (take l.place l.self) ++ drop l.place l.self
