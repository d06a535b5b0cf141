use Rattle.cb_runner.proofs.RunOnce.{judged_so, runs_so, stopped_so, untyped_so}
use Rattle.cb_runner.proofs.law.run_exactly.Goals as goal

pub returns-clause-unloaded : goal.returns-clause-unloaded
returns-clause-unloaded g c = λ folder run files first last ending refusal reason.
    stopped_so g.I.Source.left g.I.Source.gave files folder run first last ending refusal reason (record { apart = c.one_loading.ensures.never_both files folder run.main; same = c.one_loading.ensures.refusal files folder run.main; alike = c.one_loading.ensures.classes files folder run.main; judged = λ classes. c.one_judgement.ensures.never_both classes run.main; reason = λ classes. c.one_judgement.ensures.refusal classes run.main })

pub returns-clause-unlinked : goal.returns-clause-unlinked
returns-clause-unlinked g c = λ folder run files first last ending classes refusal reason.
    judged_so g.I.Source.left g.I.Source.gave files folder run first last ending classes refusal reason (record { apart = c.one_loading.ensures.never_both files folder run.main; same = c.one_loading.ensures.refusal files folder run.main; alike = c.one_loading.ensures.classes files folder run.main; judged = λ classes. c.one_judgement.ensures.never_both classes run.main; reason = λ classes. c.one_judgement.ensures.refusal classes run.main })

pub returns-clause-untyped : goal.returns-clause-untyped
returns-clause-untyped g c = λ folder run files first last ending classes reason.
    untyped_so g.I.Source.left g.I.Source.gave files folder run first last ending classes reason (record { apart = c.one_loading.ensures.never_both files folder run.main; same = c.one_loading.ensures.refusal files folder run.main; alike = c.one_loading.ensures.classes files folder run.main; judged = λ classes. c.one_judgement.ensures.never_both classes run.main; reason = λ classes. c.one_judgement.ensures.refusal classes run.main })

pub returns-clause-runs : goal.returns-clause-runs
returns-clause-runs g c = λ folder run files first last ending classes. runs_so g.I.Source.left g.I.Source.gave files folder run first last ending classes (record { apart = c.one_loading.ensures.never_both files folder run.main; same = c.one_loading.ensures.refusal files folder run.main; alike = c.one_loading.ensures.classes files folder run.main; judged = λ classes. c.one_judgement.ensures.never_both classes run.main; reason = λ classes. c.one_judgement.ensures.refusal classes run.main })
