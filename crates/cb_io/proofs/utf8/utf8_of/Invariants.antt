use Rattle.std.proofs.Common.{length}
use Rattle.cb_io.specs.Utf8.{utf8}
use Rattle.cb_io.proofs.Writing.{Written}
use Rattle.cb_io.proofs.utf8.utf8_of.Given as goal

abbrev pub invariant-loop-rest : goal.invariant-loop-rest
invariant-loop-rest g l = Written (g.S.Sink.taken l.fn.sink) (g.S.Sink.taken l.sink) (g.S.Sink.faults l.fn.sink) (g.S.Sink.faults l.sink) (utf8 l.units) (utf8 l.rest)

abbrev pub decreases-loop-rest : goal.decreases-loop-rest
decreases-loop-rest g l = length l.rest
