use Rattle.std.proofs.Common.{refl, sym, ◌∙◌}
use Rattle.std.proofs.lemmas.Bool.{false≢true, not-true, not-false}
use Rattle.cb_classfile.proofs.Distinct.{seen_more, stands_twice, all_apart}
use Rattle.cb_classfile.proofs.text_numbers.are_distinct.Goals as goal

pub returns-then-not-branch : goal.returns-then-not-branch
returns-then-not-branch c = (
  λ is. absurd (false≢true is),
  λ apart.
      absurd (stands_twice _ _ _ _ _ c.loop-pair.invariant c.loop-pair-test.true refl (not-false _ (sym c.in_ok-insert.ensures.added ∙ c.if-not-branch.true)) apart),
)

pub loop-pair-preserved : goal.loop-pair-preserved
loop-pair-preserved c =
    seen_more _ _ _ _ _ _ c.loop-pair.invariant c.loop-pair-test.true refl (not-true _ (sym c.in_ok-insert.ensures.added ∙ c.if-not-branch.false)) c.in_ok-insert.ensures.updates.0

pub returns : goal.returns
returns c =
    (λ _. all_apart _ _ _ c.loop-pair.invariant c.loop-pair-test.false c.loop-pair.auto.pair-index-end, λ _. refl)
