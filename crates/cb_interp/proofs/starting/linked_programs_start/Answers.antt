use Rattle.cb_interp.proofs.TurnsStartingFit.{may_start}
use Rattle.cb_interp.proofs.starting.linked_programs_start.Goals as goal

pub returns : goal.returns
returns c =
    λ program shapes linked typed are.
    let natives = c.linked_has_natives.ensures program linked typed in
    may_start program (c.linked_programs.ensures.whole program linked) shapes are linked (c.linked_has_start.ensures program linked) _ natives.core.strings
