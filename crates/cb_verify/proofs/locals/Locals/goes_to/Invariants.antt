use Rattle.std.proofs.Common.{◌≡◌, drop}
use Rattle.std.specs.Cmp.Lexicographic.{pointwise}
use Rattle.cb_verify.specs.Types.{goes_to}
use Rattle.cb_verify.proofs.locals.Locals.goes_to.Given as goal

abbrev pub invariant-loop-number : goal.invariant-loop-number
invariant-loop-number l =
    pointwise (goes_to l.program) (drop l.number l.self) (drop l.number l.other) ≡ pointwise (goes_to l.program) l.self l.other
