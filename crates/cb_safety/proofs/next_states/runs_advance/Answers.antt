use Rattle.cb_safety.proofs.Stepping.{ended_stays, run_goes, run_typed}
use Rattle.cb_safety.proofs.next_states.runs_advance.Goals as goal

pub returns : goal.returns
returns c = record { typed = run_typed; goes_on = run_goes; ended = ended_stays }
