use Rattle.std.proofs.Common.{subst, sym, Result}
use Rattle.cb_heap.specs.declared.no_room.NoRoom.{NoRoom}
use Rattle.cb_interp.specs.declared.end.End.{End}
use Rattle.cb_runner.specs.Executing.{IsStopOver, MayStop}
use Rattle.cb_runner.specs.Inner.{run_of}
use Rattle.cb_runner.proofs.executing.stop_over.Goals as goal

pub stop_of-requires-clause-reported : goal.stop_of-requires-clause-reported
stop_of-requires-clause-reported c = (subst (MayStop c.args.program c.args.store.now.heap) c.in-Ok.is c.requires.may).reported

pub stop_of-requires-clause-roomy : goal.stop_of-requires-clause-roomy
stop_of-requires-clause-roomy c = (subst (MayStop c.args.program c.args.store.now.heap) c.in-Ok.is c.requires.may).roomy

pub unbegun-requires : goal.unbegun-requires
unbegun-requires c = subst (MayStop c.args.program c.args.store.now.heap) c.in-Err.is c.requires.may

pub returns-in-Ok : goal.returns-in-Ok
returns-in-Ok c =
    let may = subst (MayStop c.args.program c.args.store.now.heap) c.in-Ok.is c.requires.may in
    subst (λ (ended : Result End NoRoom). IsStopOver (run_of c.args.asked.now) c.args.program c.args.store.now ended c.stop_of.result) (sym c.in-Ok.is) (c.stop_of.ensures c.args.store.now may.may)

pub returns-in-Err : goal.returns-in-Err
returns-in-Err c =
    subst (λ (ended : Result End NoRoom). IsStopOver (run_of c.args.asked.now) c.args.program c.args.store.now ended c.unbegun.result) (sym c.in-Err.is) (c.unbegun.ensures c.args.store.now)
