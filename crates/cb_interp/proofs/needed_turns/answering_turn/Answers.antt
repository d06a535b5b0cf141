use Rattle.std.proofs.Common.{◌∙◌, ap, refl, sym, rules}
use Rattle.cb_interp.proofs.needed_turns.answering_turn.Goals as goal
