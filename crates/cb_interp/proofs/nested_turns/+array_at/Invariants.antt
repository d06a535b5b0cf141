use Rattle.cb_interp.proofs.nested_turns.+array_at.Given as goal

abbrev pub decreases-array_at : goal.decreases-array_at
decreases-array_at g l = l.dimension
