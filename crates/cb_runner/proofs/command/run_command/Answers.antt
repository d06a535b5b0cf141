use Rattle.cb_runner.specs.Inner.{ending_with}
use Rattle.cb_runner.proofs.Endings.{folder_counts, input_counts, output_counts}
use Rattle.cb_runner.proofs.command.run_command.Goals as goal

pub returns-clause-answer : goal.returns-clause-answer
returns-clause-answer g c =
    let stopped = c.carry_out-stopped.result in
    let done = c.carry_out-stopped.ensures.ends in
    rw c.ended.ensures.cause (record {
      ending = ending_with stopped.store stopped.stop done.printed done.read;
      ends = done.ends;
      files = c.carry_out-stopped.ensures.kept;
      remains = done.left;
      alone = c.carry_out-stopped.ensures.alone;
      out = done.appends;
      err = c.tell-cause.ensures.told done.printed done.read;
      counts = record {
        folder = folder_counts stopped.store stopped.stop _ _ c.carry_out-stopped.ensures.tells c.carry_out-stopped.ensures.folder_fault;
        input = input_counts stopped.store stopped.stop _ _ c.carry_out-stopped.ensures.tells c.carry_out-stopped.ensures.input_fault;
        out = output_counts stopped.store stopped.stop _ _ c.carry_out-stopped.ensures.tells c.carry_out-stopped.ensures.output_fault;
        err = c.tell-cause.ensures.fault;
      };
      leaves = c.ended.ensures.remains;
    })
