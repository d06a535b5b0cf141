use Rattle.std.proofs.Common.{◌≡◌, ◌∷◌, sym, ◌∙◌, ap}
use Rattle.cb_insn.specs.declared.opcode.TheConstants.{WIDE}
use Rattle.cb_insn.proofs.Heads.{no_wide_head}
use Rattle.cb_insn.proofs.instruction.head_at.Goals as goal

pub returns-in_err-wide_form_of-clause-none : goal.returns-in_err-wide_form_of-clause-none
returns-in_err-wide_form_of-clause-none c =
    let one = c.in_ok-first.ensures.cases.0 in
    let two = c.in_ok-opcode.ensures.cases.0 in
    let is : c.args.rest.now ≡ WIDE ∷ c.in_ok-opcode.opcode.now ∷ c.in_ok-opcode.behind.now = one ∙ ap (λ b. b ∷ c.in_ok-first.behind.now) c.if-first.false ∙ ap (λ b. WIDE ∷ b) two in
    λ _. no_wide_head c.args.rest.now c.in_ok-opcode.opcode.now c.in_ok-opcode.behind.now is (sym c.wide_form_of.ensures ∙ c.in_err-wide_form_of.was)
