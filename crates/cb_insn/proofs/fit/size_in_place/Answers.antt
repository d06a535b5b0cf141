use Rattle.std.proofs.Common.{refl, sym, arith}
use Rattle.cb_insn.proofs.Placing.{walked_next, walked_stuck, walked_off, walked_found, walked_size}
use Rattle.cb_insn.proofs.fit.size_in_place.Goals as goal

pub loop-at-preserved : goal.loop-at-preserved
loop-at-preserved c = let fits = c.in_ok-pc.ensures.fits in walked_next _ _ _ _ _ _ c.loop-at.invariant c.in-Some.ensures.cases.0 c.if-at-pc.false fits.0 fits.1

pub returns-then-at-pc-clause-none : goal.returns-then-at-pc-clause-none
returns-then-at-pc-clause-none c = λ none bytes spelled short. walked_off _ _ _ _ _ c.loop-at.invariant c.in-Some.ensures.cases.0 c.if-at-pc.true bytes spelled

pub returns-in_err-pc-clause-none : goal.returns-in_err-pc-clause-none
returns-in_err-pc-clause-none c = λ none bytes spelled short. walked_stuck _ _ _ _ _ c.loop-at.invariant c.in-Some.ensures.cases.0 (c.in_err-pc.ensures.none refl) bytes spelled

pub returns-then-pc-ge4294967296-clause-none : goal.returns-then-pc-ge4294967296-clause-none
returns-then-pc-ge4294967296-clause-none c = λ none bytes spelled short.
    let long = walked_size _ _ _ c.loop-at.invariant c.in_default.ensures.cases bytes spelled in
    omega (arith, long, short, c.if-pc-ge4294967296.true)

pub returns-clause-fits : goal.returns-clause-fits
returns-clause-fits c =
    let (bytes, spelled, long) = walked_found _ _ _ c.loop-at.invariant c.in_default.ensures.cases in
    (bytes, spelled, omega (arith, long, c.if-pc-ge4294967296.false), sym long)
