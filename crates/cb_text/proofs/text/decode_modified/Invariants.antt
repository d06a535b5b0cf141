use Rattle.std.proofs.Common.{◌+◌, ◌≤◌, length, vec_len, vec_capacity}
use Rattle.cb_text.proofs.Decoding.{Decoded}
use Rattle.cb_text.proofs.text.decode_modified.Given as goal

abbrev pub invariant-loop-rest : goal.invariant-loop-rest
invariant-loop-rest l = Decoded l.bytes l.units.items l.rest × (vec_len l.units + length l.rest ≤ vec_capacity l.units)

abbrev pub decreases-loop-rest : goal.decreases-loop-rest
decreases-loop-rest l = length l.rest
