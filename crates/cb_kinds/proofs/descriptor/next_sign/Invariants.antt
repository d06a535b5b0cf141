use Rattle.cb_kinds.proofs.SignPlaces.{IsPast}
use Rattle.cb_kinds.proofs.descriptor.next_sign.Given as goal

abbrev pub invariant-loop-index : goal.invariant-loop-index
invariant-loop-index l = IsPast l.text l.start l.index
