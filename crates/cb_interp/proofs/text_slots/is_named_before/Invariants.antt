use Rattle.std.proofs.Common.{◌≡◌, ◌<◌, ℕ, Some}
use Rattle.cb_interp.specs.TextStatics.{own_text}
use Rattle.cb_interp.proofs.text_slots.is_named_before.Given as goal

abbrev pub invariant-loop-other : goal.invariant-loop-other
invariant-loop-other l = (other : ℕ) → other < l.other → own_text l.program l.class other ≡ Some l.text → ⊥
