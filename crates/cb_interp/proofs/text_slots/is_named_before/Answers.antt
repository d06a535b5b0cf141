use Rattle.std.proofs.Common.{◌≡◌, ◌<◌, ◌≤◌, ◌⊎◌, ◌+◌, arith, inl, inr, subst, ℕ, Some}
use Rattle.std.proofs.lemmas.Bool.{cases_lt}
use Rattle.cb_interp.specs.TextStatics.{own_text}
use Rattle.cb_interp.proofs.text_slots.is_named_before.Goals as goal

pub loop-other-preserved : goal.loop-other-preserved
loop-other-preserved c = λ other low is. go other low is (cases_lt other c.loop-other.other) where
  go : (other : ℕ) → other < c.loop-other.other + 1 → own_text c.args.program.now c.args.class other ≡ Some c.args.text
      → (other < c.loop-other.other) ⊎ (c.loop-other.other ≤ other) → ⊥
  go other low is (inl below) = c.loop-other.invariant other below is
  go other low is (inr high) =
      let same : other ≡ c.loop-other.other = omega (arith, low, high) in
      c.has_text.ensures.not c.if-has_text.false (subst (λ (other : ℕ). own_text c.args.program.now c.args.class other ≡ Some c.args.text) same is)

pub returns-clause-not : goal.returns-clause-not
returns-clause-not c = λ is before. c.loop-other.invariant before.other (let low = before.low in omega (arith, low)) before.is
