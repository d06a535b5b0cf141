use Rattle.std.proofs.Common.{◌∙◌, sym}
use Rattle.cb_asm_record.proofs.Holding.{holds_new, holds_old, hopeless, there_is}
use Rattle.cb_asm_record.proofs.numbering.Numbering.add.Goals as goal

pub returns-then-contains_key : goal.returns-then-contains_key
returns-then-contains_key c = λ used holds parts.
    holds_old used _ _ _ holds parts (sym (there_is used _ _ _ holds) ∙ sym c.contains_key.ensures ∙ c.if-contains_key.true)

pub returns-then-not-admits : goal.returns-then-not-admits
returns-then-not-admits c = λ used holds parts.
    hopeless used _ _ _ _ _ holds parts (sym (there_is used _ _ _ holds) ∙ sym c.contains_key.ensures ∙ c.if-contains_key.false)
    (c.in_ok-constant.ensures used holds) (λ pool. let is = c.admits.ensures.1 pool in let not = c.if-not-admits.true in cc)

pub returns : goal.returns
returns c = λ used holds parts.
    holds_new used _ _ _ _ _ _ _ holds parts (sym (there_is used _ _ _ holds) ∙ sym c.contains_key.ensures ∙ c.if-contains_key.false)
    (c.admits.ensures.0 (let is = c.if-not-admits.false in cc)) (c.in_ok-constant.ensures used holds) c.in_ok-index.ensures.ok.0 c.in_ok-index.ensures.ok.1 c.in_ok-insert.ensures.updates.0
