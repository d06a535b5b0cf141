use Rattle.cb_collector.specs.Policy.{rules_of}
use Rattle.cb_runner.specs.Running.{machine_of, start_of}
use Rattle.cb_runner.proofs.Configs.{config_stays}
use Rattle.cb_runner.proofs.Reached.{reaches}
use Rattle.cb_runner.proofs.law.never_frees.Goals as goal

pub returns-clause-steps : goal.returns-clause-steps
returns-clause-steps g c = λ run program first last count read moment state comes.
    reaches g.I.Source.left g.I.Source.gave rules_of (machine_of run program) comes.begun (start_of run program) first count read moment state last comes.went

pub returns-clause-config : goal.returns-clause-config
returns-clause-config g c = λ run program first last count read moment state comes.
    config_stays g.I.Source.left g.I.Source.gave run program first count read moment state last comes
