use Rattle.std.proofs.Common.{◌≡◌, [], None, drop}
use Rattle.cb_verify.specs.InnerPassing.{walked}
use Rattle.cb_verify.proofs.pass.walk_over.Given as goal

abbrev pub invariant-loop-turn : goal.invariant-loop-turn
invariant-loop-turn l =
    walked l.method l.frames l.walk (drop l.turn l.code) ≡ walked l.method l.frames (record { arrived = l.fn.first; frames = []; failing = None }) l.code
