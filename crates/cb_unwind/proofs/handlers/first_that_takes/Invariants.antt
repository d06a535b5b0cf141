use Rattle.std.proofs.Common.{◌≡◌, drop, Some}
use Rattle.std.specs.List.{find}
use Rattle.cb_machine.specs.Unwinding.{takes}
use Rattle.cb_unwind.proofs.handlers.first_that_takes.Given as goal

abbrev pub invariant-loop-handler : goal.invariant-loop-handler
invariant-loop-handler l =
    find (takes l.program (Some l.class) l.pc l.kind) (drop l.handler-index l.handlers) ≡ find (takes l.program (Some l.class) l.pc l.kind) l.handlers
