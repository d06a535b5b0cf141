use Rattle.std.proofs.Common.{Bool, IsTrue, ◌↔◌, Result, Ok, Err, IfOk, ◌∙◌}
use Rattle.cb_classfile.proofs.Distinct.{differ_alike}
use Rattle.cb_classfile.proofs.text_numbers.do_differ_by.Goals as goal

-- what a test tells of one fact it tells of another that goes with it
told : {E : Type 0} (test : Result Bool E) (P Q : Type 0) → (P → Q) × (Q → P) → IfOk test (λ b. IsTrue b ↔ P) → IfOk test (λ b. IsTrue b ↔ Q)
told (Ok b) P Q alike is = (λ yes. alike.0 (is.0 yes), λ holds. is.1 (alike.1 holds))
told (Err fault) P Q alike is = tt

pub returns : goal.returns
returns g c = λ pool tell.
    told _ _ _ (differ_alike pool c.args.numbers.now tell _ _ (c.deref.ensures.value ∙ c.in_ok-pairs.ensures)) c.are_distinct.ensures
