use Rattle.std.proofs.Common.{refl}
use Rattle.cb_insn.proofs.Placing.{looked_up}
use Rattle.cb_insn.proofs.fit.is_reached.Goals as goal

pub returns-then-has_place-2 : goal.returns-then-has_place-2
returns-then-has_place-2 c = looked_up _ _ _ _ _ c.lead_to_places.result c.in-Lookup.is c.as_slice-then-has_place-2.ensures (c.if-has_place-2.ensures.0 refl) c.lead_to_places.ensures
