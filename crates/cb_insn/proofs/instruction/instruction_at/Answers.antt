use Rattle.std.proofs.Common.{◌≡◌, All, length, refl, sym, ◌∙◌, ap, subst, arith}
use Rattle.cb_insn.specs.Forms.{head_bytes}
use Rattle.cb_insn.specs.Faults.{Whole}
use Rattle.cb_insn.specs.Inner.{IsMarked, Misses}
use Rattle.cb_insn.proofs.Heads.{headed, head_whole, head_targets}
use Rattle.cb_insn.proofs.Marks.{handed_on}
use Rattle.cb_insn.proofs.instruction.instruction_at.Goals as goal
use Rattle.cb_insn.proofs.instruction.instruction_at.Goals.{then-head, else-head}

pub unreachable-requires : goal.unreachable-requires
unreachable-requires c =
    let parts = headed c.args.pc c.args.rest.now c.requires.whole.0 c.requires.whole.1 in
    c.in_default.ensures.none refl parts.wide parts.opcode parts.form parts.behind parts.head

pub operand_at-requires-clause-there : goal.operand_at-requires-clause-there
operand_at-requires-clause-there c = (head_whole _ _ _ _ _ _ c.requires.whole.0 c.requires.whole.1 c.in-Some.ensures.found).0

pub returns-in_err-operand-clause-err : goal.returns-in_err-operand-clause-err
returns-in_err-operand-clause-err c =
    handed_on c.from_residual.result _ _ c.from_residual.ensures.1 (subst (λ zs. Misses c.args.pc zs c.args.starts.now c.in_err-operand.field-0.0) (sym (head_targets c.args.pc _ _ _ _ _ c.in-Some.ensures.found)) c.in_err-operand.ensures.err)

pub returns-clause-size : goal.returns-clause-size
returns-clause-size c =
    let whole = head_whole _ _ _ _ _ _ c.requires.whole.0 c.requires.whole.1 c.in-Some.ensures.found in
    let head = c.in-Some.head in
    let first : length (head_bytes head.wide head.opcode) ≡ c.if-head.before = elim c.if-head.branch [
      | then-head w ↦ ap (λ wide. length (head_bytes wide head.opcode)) w.if-head.true ∙ sym w.before-is
      | else-head w ↦ ap (λ wide. length (head_bytes wide head.opcode)) w.if-head.false ∙ sym w.before-is
    ] in
    whole.2 ∙ ap Whole (omega (arith, first, c.operand_length.ensures.exact))

pub returns-clause-marked : goal.returns-clause-marked
returns-clause-marked c = subst (All (IsMarked c.args.starts.now)) (sym (head_targets c.args.pc _ _ _ _ _ c.in-Some.ensures.found)) c.in_ok-operand.ensures.ok.1
