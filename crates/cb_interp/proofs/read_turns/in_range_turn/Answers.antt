use Rattle.std.proofs.Common.{refl}
use Rattle.cb_interp.specs.Reading.{Silent}
use Rattle.cb_interp.proofs.read_turns.in_range_turn.Goals as goal

pub returns-then-range-eq0-clause-made : goal.returns-then-range-eq0-clause-made
returns-then-range-eq0-clause-made g c = Silent c.empty_turn.ensures.made refl
