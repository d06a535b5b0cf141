use Rattle.std.proofs.Common.{rules, inl, inr, arith}
use Rattle.std.proofs.lemmas.Bool.Decides.{nat_tests}
use Rattle.std.proofs.lemmas.Bool.{false≢true}
use Rattle.cb_classfile.proofs.Words.{are_few, few_are, none_few}
use Rattle.cb_classfile.proofs.method.has_few_words.Goals as goal

pub returns-else-contains : goal.returns-else-contains
returns-else-contains c = (
  λ few. are_few _ _ c.in-Some.words c.in-Some.ensures.words (inr (grind (arith, nat_tests))),
  λ few. elim (few_are _ _ c.in-Some.words c.in-Some.ensures.exact few) [
    | inl static_method ↦ search (rules, static_method)
    | inr below ↦ grind (arith, nat_tests)
  ],
)

pub returns-in-None : goal.returns-in-None
returns-in-None c = (λ no. absurd (false≢true no), λ few. absurd (none_few _ _ c.in-None.ensures.words few))
