use Rattle.std.proofs.Common.{length, map}
use Rattle.cb_io.specs.Utf8.{utf8}
use Rattle.cb_interp.specs.Texts.{dotted}
use Rattle.cb_interp.proofs.TurnsNativeUnits.{Written}
use Rattle.cb_interp.proofs.texts.write_name.Given as goal

abbrev pub invariant-loop-front : goal.invariant-loop-front
invariant-loop-front g l =
    Written (g.O.Sink.taken l.fn.out) (g.O.Sink.taken l.out) (g.O.Sink.faults l.fn.out) (g.O.Sink.faults l.out) (utf8 (map dotted l.name)) (utf8 (map dotted l.rest))

abbrev pub decreases-loop-front : goal.decreases-loop-front
decreases-loop-front g l = length l.rest
