use Rattle.std.proofs.Common.{[]}
use Rattle.cb_runner.specs.Inner.{run_of}
use Rattle.cb_runner.specs.Run.{IsRefusedRun}
use Rattle.cb_runner.specs.declared.stop.Stop.TheVariants as stops
use Rattle.cb_runner.proofs.Endings.{Appends-nothing, at_once_quietly, at_once_tells, not_failed, nothing_read, quiet_count, run_at_once, run_ends, runs_quietly, runs_tell, unchanged_count}
use Rattle.cb_runner.proofs.run.run_class.Goals as goal

pub returns-in-Ok-clause-ends : goal.returns-in-Ok-clause-ends
returns-in-Ok-clause-ends g c =
    let done = c.run_program.ensures.runs in
    record {
      printed = done.printed;
      read = done.read;
      appends = done.appends;
      left = done.remains;
      ends = run_ends g.I.Source.left g.I.Source.gave _ c.args.input.now c.run_program.new.input _ (run_of c.args.asked.now) c.in-Ok.program c.run_program.result.store c.run_program.result.stop done.printed done.read
          c.in-Ok.ensures.runnable done.runs;
    }

pub returns-in-Ok-clause-tells : goal.returns-in-Ok-clause-tells
returns-in-Ok-clause-tells g c =
    let done = c.run_program.ensures.runs in
    runs_tell g.I.Source.left g.I.Source.gave (g.F.Folder.files c.args.folder.now) c.args.input.now c.run_program.new.input (run_of c.args.asked.now) c.in-Ok.program c.run_program.result.store c.run_program.result.stop done.printed
    done.read done.runs done.ready

pub returns-in-Ok-clause-folder_fault : goal.returns-in-Ok-clause-folder_fault
returns-in-Ok-clause-folder_fault g c =
    let done = c.run_program.ensures.runs in
    quiet_count _ _ (not_failed c.in-Ok.program stops.FolderFault)
    (runs_quietly g.I.Source.left g.I.Source.gave (g.F.Folder.files c.args.folder.now) c.args.input.now c.run_program.new.input (run_of c.args.asked.now) c.in-Ok.program c.run_program.result.store c.run_program.result.stop done.printed
    done.read done.runs) c.in-Ok.ensures.fault

pub returns-in-Err-clause-ends : goal.returns-in-Err-clause-ends
returns-in-Err-clause-ends g c = rw (c.of.ensures.stop, c.of.ensures.store) (record {
  printed = [];
  read = 0;
  appends = Appends-nothing _;
  left = nothing_read (g.I.Source.left c.args.input.now);
  ends = run_at_once g.I.Source.left g.I.Source.gave _ (run_of c.args.asked.now) _ c.args.input.now c.in-Err.stop c.in-Err.ensures.stopped;
})

pub returns-in-Err-clause-tells : goal.returns-in-Err-clause-tells
returns-in-Err-clause-tells g c =
    rw (c.of.ensures.stop, c.of.ensures.store) (at_once_tells (IsRefusedRun (g.F.Folder.files c.args.folder.now) c.args.asked.now.folder.now (run_of c.args.asked.now)) c.in-Err.stop c.in-Err.ensures.stopped)

pub returns-in-Err-clause-input_fault : goal.returns-in-Err-clause-input_fault
returns-in-Err-clause-input_fault g c =
    rw c.of.ensures.stop (unchanged_count _ (at_once_quietly (IsRefusedRun (g.F.Folder.files c.args.folder.now) c.args.asked.now.folder.now (run_of c.args.asked.now)) c.in-Err.stop c.in-Err.ensures.stopped).0)

pub returns-in-Err-clause-output_fault : goal.returns-in-Err-clause-output_fault
returns-in-Err-clause-output_fault g c =
    rw c.of.ensures.stop (unchanged_count _ (at_once_quietly (IsRefusedRun (g.F.Folder.files c.args.folder.now) c.args.asked.now.folder.now (run_of c.args.asked.now)) c.in-Err.stop c.in-Err.ensures.stopped).1)
