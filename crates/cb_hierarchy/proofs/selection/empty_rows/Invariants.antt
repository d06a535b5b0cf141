use Rattle.std.proofs.Common.{◌≡◌, vec_len}
use Rattle.cb_hierarchy.proofs.selection.empty_rows.Given as goal

abbrev pub invariant-loop-i : goal.invariant-loop-i
invariant-loop-i l = vec_len l.rows ≡ l._i
