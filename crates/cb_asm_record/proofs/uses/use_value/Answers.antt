use Rattle.std.proofs.Common.{◌≡◌, [], ◌∷◌, ◌++◌, OnOk, subst}
use Rattle.cb_asm_record.proofs.Using.{then_more}
use Rattle.cb_asm_record.proofs.uses.use_value.Goals as goal

pub returns-in_ok-use_text-in-Some : goal.returns-in_ok-use_text-in-Some
returns-in_ok-use_text-in-Some c =
    rw c.in-Some.is (then_more _ _ _ _ _ _ c.in_ok-use_text-in-Some.ensures (subst (λ entry. OnOk c.push.result (c.push.new.self ≡ c.use_text.new.uses ++ entry ∷ [])) c.value_key.ensures c.push.ensures))
