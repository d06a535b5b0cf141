use Rattle.std.proofs.Common.{refl}
use Rattle.std.proofs.lemmas.Bool.{false≢true}
use Rattle.cb_insn.proofs.Placing.{rises, fit, reach}
use Rattle.cb_insn.proofs.fit.code_size.Goals as goal

pub are_reached-requires : goal.are_reached-requires
are_reached-requires c = let (bytes, spelled, short, long) = c.in_ok-size.ensures.fits in rises 0 _ bytes spelled

pub returns-in_err-size-clause-none : goal.returns-in_err-size-clause-none
returns-in_err-size-clause-none c = λ none bytes spells. c.in_err-size.ensures.none refl bytes (rw c.as_slice-placed.ensures spells.spelled) spells.short

pub returns-then-are_reached-clause-fits : goal.returns-then-are_reached-clause-fits
returns-then-are_reached-clause-fits c = rw (← c.as_slice-placed.ensures) (fit _ _ c.in_ok-size.ensures.fits (c.if-are_reached.ensures.0 refl))

pub returns-else-are_reached-clause-none : goal.returns-else-are_reached-clause-none
returns-else-are_reached-clause-none c = λ none bytes spells. absurd (false≢true (c.if-are_reached.ensures.1 (rw c.as_slice-placed.ensures (reach _ bytes spells))))
