use Rattle.std.proofs.Common.{sym, subst}
use Rattle.cb_safety.proofs.Laws.{start_is_typed}
use Rattle.cb_safety.specs.States.{IsTypedState}
use Rattle.cb_interp.proofs.TurnsStarting.{stands_itself}
use Rattle.cb_interp.proofs.starting.starts_stand.Goals as goal

pub returns : goal.returns
returns g c = record {
  typed = λ machine given input known moment linked texts few bytes begins.
      subst (IsTypedState machine.program) (sym begins.starts)
      (start_is_typed machine given input (c.linked_has_start.ensures machine.program linked) texts few bytes);
  stands = λ machine given input known moment linked texts few bytes begins.
      stands_itself machine.program moment _ begins.starts
      (start_is_typed machine given input (c.linked_has_start.ensures machine.program linked) texts few bytes);
}
