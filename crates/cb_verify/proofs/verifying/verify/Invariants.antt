use Rattle.std.proofs.Common.{◌≡◌, ℕ, ◌<◌, None, map}
use Rattle.std.specs.List.{range_with_len}
use Rattle.cb_verify.specs.Framed.{frames_in}
use Rattle.cb_verify.specs.Typed.{fails_at}
use Rattle.cb_verify.specs.Within.{within}
use Rattle.cb_verify.proofs.verifying.verify.Given as goal

abbrev pub invariant-loop-method : goal.invariant-loop-method
invariant-loop-method l =
    (l.methods ≡ map (λ number. frames_in (within l.program number)) (range_with_len 0 l.method))
    × ((other : ℕ) → other < l.method → fails_at l.program other ≡ None)
