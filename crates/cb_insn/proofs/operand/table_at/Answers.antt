use Rattle.std.proofs.Common.{◌∙◌, ap, rules, FitsSigned}
use Rattle.std.specs.Int.{w32}
use Rattle.std.proofs.lemmas.Int.{to_z-of_z}
use Rattle.cb_insn.specs.Faults.{s4_at}
use Rattle.cb_insn.proofs.Marks.{handed_on, miss_first, miss_rest, table_same, table_read}
use Rattle.cb_insn.proofs.operand.table_at.Goals as goal

pub returns-in_err-default-clause-err : goal.returns-in_err-default-clause-err
returns-in_err-default-clause-err c =
    let fits : FitsSigned w32 c.s4_at.result = search rules in
    handed_on c.from_residual.result _ _ c.from_residual.ensures.1 (miss_first _ _ _ _ _ _ (to_z-of_z w32 _ fits ∙ c.s4_at.ensures) c.in_err-default.ensures.err)

pub returns-in_err-targets-clause-err : goal.returns-in_err-targets-clause-err
returns-in_err-targets-clause-err c =
    handed_on c.from_residual-in_err-targets.result _ _ c.from_residual-in_err-targets.ensures.1 (miss_rest _ _ _ _ _ _ (table_same c.args.switch.now _ _ c.table_count.ensures c.after.ensures) c.in_err-targets.ensures.err)

pub returns-clause-ok : goal.returns-clause-ok
returns-clause-ok c =
    let fits : FitsSigned w32 c.s4_at.result = search rules in
    let fits_low : FitsSigned w32 c.s4_at-2.result = search rules in
    table_read _ c.args.switch.now _ _ _ _ _ _ _ (to_z-of_z w32 _ fits ∙ c.s4_at.ensures) (to_z-of_z w32 _ fits_low ∙ c.s4_at-2.ensures ∙ ap s4_at c.after-2.ensures) c.table_count.ensures c.after.ensures c.in_ok-default.ensures.ok c.in_ok-targets.ensures.ok
