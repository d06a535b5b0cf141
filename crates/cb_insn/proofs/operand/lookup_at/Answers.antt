use Rattle.std.proofs.Common.{◌∙◌, rules, FitsSigned}
use Rattle.std.specs.Int.{w32}
use Rattle.std.proofs.lemmas.Int.{to_z-of_z}
use Rattle.cb_insn.proofs.Marks.{handed_on, miss_first, miss_rest, lookup_same, lookup_read}
use Rattle.cb_insn.proofs.operand.lookup_at.Goals as goal

pub returns-in_err-default-clause-err : goal.returns-in_err-default-clause-err
returns-in_err-default-clause-err c =
    let fits : FitsSigned w32 c.s4_at.result = search rules in
    handed_on c.from_residual.result _ _ c.from_residual.ensures.1 (miss_first _ _ _ _ _ _ (to_z-of_z w32 _ fits ∙ c.s4_at.ensures) c.in_err-default.ensures.err)

pub returns-in_err-pairs-clause-err : goal.returns-in_err-pairs-clause-err
returns-in_err-pairs-clause-err c =
    handed_on c.from_residual-in_err-pairs.result _ _ c.from_residual-in_err-pairs.ensures.1 (miss_rest _ _ _ _ _ _ (lookup_same c.args.switch.now _ _ c.lookup_count.ensures.exact c.after.ensures) c.in_err-pairs.ensures.err)

pub returns-clause-ok : goal.returns-clause-ok
returns-clause-ok c =
    let fits : FitsSigned w32 c.s4_at.result = search rules in
    lookup_read _ c.args.switch.now _ _ _ _ _ _ (to_z-of_z w32 _ fits ∙ c.s4_at.ensures) c.lookup_count.ensures.exact c.after.ensures c.in_ok-default.ensures.ok c.in_ok-pairs.ensures.ok
