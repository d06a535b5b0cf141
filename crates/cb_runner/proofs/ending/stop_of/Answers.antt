use Rattle.std.proofs.Common.{◌≡◌, ap, refl, subst, sym, Some}
use Rattle.cb_collector.specs.Held.{Held}
use Rattle.cb_heap.specs.Reading.{serial_of}
use Rattle.cb_interp.specs.declared.end.End.{End}
use Rattle.cb_io.specs.declared.sure_sink.SureSink.{SureSink}
use Rattle.cb_partheap.specs.Heaps.{index_in, objects_in}
use Rattle.cb_runner.specs.Inner.{IsStopOf, MayTell, run_of}
use Rattle.cb_runner.specs.Running.{exception_line}
use Rattle.cb_runner.specs.declared.cause.Cause.TheVariants as causes
use Rattle.cb_runner.specs.declared.line.Line.TheVariants as lines
use Rattle.cb_runner.specs.declared.stop.Stop.TheVariants as stops
use Rattle.cb_runner.proofs.Told.{told_units}
use Rattle.cb_runner.proofs.ending.stop_of.Goals as goal

pub returns-in-Uncaught : goal.returns-in-Uncaught
returns-in-Uncaught c = λ store may.
    let program = c.args.program in
    let serial = serial_of (index_in store.heap) c.in-Uncaught.at in
    let (heap, thrown) = subst (MayTell program store.heap) c.in-Uncaught.is may in
    let (units, tells) = c.exceptions_are_told.ensures.told program (objects_in store.heap) serial c.requires.linked c.requires.fits heap thrown in
    subst (λ (end : End). IsStopOf (run_of c.args.asked.now) program store end
    (stops.Told (causes.Uncaught c.in-Uncaught.class) (lines.Unhandled (record { program = program; at = c.in-Uncaught.at })))) (sym c.in-Uncaught.is) (
      units,
      tells,
      (refl, ap exception_line (told_units program (objects_in store.heap) serial units tells), record { linked = c.requires.linked; fits = c.requires.fits; objects = heap; thrown = thrown }),
    )

pub returns-in_default : goal.returns-in_default
returns-in_default c = λ store may. c.caught.ensures c.args.program store
