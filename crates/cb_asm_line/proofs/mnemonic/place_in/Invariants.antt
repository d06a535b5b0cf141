use Rattle.std.proofs.Common.{◌≢◌, ℕ, ◌<◌, map, slice_get, Some}
use Rattle.cb_asm_line.proofs.mnemonic.place_in.Given as goal

abbrev pub invariant-loop-place : goal.invariant-loop-place
invariant-loop-place l = (k : ℕ) → k < l.place → slice_get (map (λ name. name.now) l.names) k ≢ Some l.name
