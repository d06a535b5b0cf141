use Rattle.std.proofs.Common.{◌≡◌, ◌+◌, ◌++◌, take}
use Rattle.cb_io.proofs.utf8.put.Given as goal

abbrev pub invariant-loop-index : goal.invariant-loop-index
invariant-loop-index l = take (l.filled + l.index) l.piece ≡ take l.filled l.fn.piece ++ take l.index l.bytes
