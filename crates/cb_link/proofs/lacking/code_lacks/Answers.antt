use Rattle.std.proofs.Common.{ℕ, sym, ap, ◌∙◌, arith}
use Rattle.cb_insn.specs.declared.insn.Insn.{Insn}
use Rattle.cb_link.specs.Lacking.{lacks}
use Rattle.cb_link.proofs.LackedLaws.{first_here, none_here}
use Rattle.cb_link.proofs.lacking.code_lacks.Goals as goal

pub returns-in-Some : goal.returns-in-Some
returns-in-Some c =
    let f = λ (placed : ℕ × Insn). lacks c.args.resolver.now c.args.number c.args.pool.now placed.1 in
    sym (first_here f c.args.code.now c.loop-insn.insn-index c.loop-insn-item.result c.in-Some.text (omega arith) c.loop-insn.invariant
    (ap f (sym c.loop-insn-item.is) ∙ sym c.in_ok-text.ensures ∙ c.in-Some.is))

pub loop-insn-preserved : goal.loop-insn-preserved
loop-insn-preserved c =
    let f = λ (placed : ℕ × Insn). lacks c.args.resolver.now c.args.number c.args.pool.now placed.1 in
    none_here f c.args.code.now c.loop-insn.insn-index c.loop-insn-item.result (omega arith) c.loop-insn.invariant
    (ap f (sym c.loop-insn-item.is) ∙ sym c.in_ok-text.ensures ∙ c.in_default.is)
