use Rattle.cb_act.proofs.TurnsStand.{turns_stand}
use Rattle.cb_act.proofs.keeping.turns_stand.Goals as goal

pub returns : goal.returns
returns g c = λ machine steps state closed first last stands turns. turns_stand g.S.Store.rules machine steps first last state turns stands closed
