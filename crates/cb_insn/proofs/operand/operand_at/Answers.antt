use Rattle.std.proofs.Common.{◌≡◌, ℕ, ◌∙◌, sym, subst, List, [], drop, Bool, All, Result, IfOk, rules, FitsSigned}
use Rattle.cb_insn.specs.declared.form.Form.{Form}
use Rattle.cb_insn.specs.declared.form.Form.TheVariants.{Lookup}
use Rattle.cb_insn.specs.declared.insn.Operand.{Operand}
use Rattle.cb_insn.specs.declared.fault.InsnFault.{InsnFault}
use Rattle.cb_insn.specs.Faults.{padding_length, lookup_offsets, targets_in}
use Rattle.cb_insn.specs.Inner.{IsMarked, operand_of, operand_targets, lookup_of}
use Rattle.std.specs.Int.{w16, w32}
use Rattle.std.proofs.lemmas.Int.{to_z-of_z}
use Rattle.cb_insn.proofs.Marks.{handed_on, miss_first}
use Rattle.cb_insn.proofs.operand.operand_at.Goals as goal

lifted : (pc : ℕ) (form : Form) (behind switch : List ℕ) (starts : List Bool) (result : Result Operand InsnFault) → form ≡ Lookup → switch ≡ drop (padding_length pc) behind → IfOk result (λ operand. (operand ≡ lookup_of pc switch) × All (IsMarked starts) (targets_in pc (lookup_offsets switch))) → IfOk result (λ operand. (operand ≡ operand_of pc form behind) × All (IsMarked starts) (operand_targets pc form behind))
lifted pc form behind switch starts result is_lookup is_switch holds =
    subst (λ f. IfOk result (λ operand. (operand ≡ operand_of pc f behind) × All (IsMarked starts) (operand_targets pc f behind))) (sym is_lookup) (subst (λ s. IfOk result (λ operand. (operand ≡ lookup_of pc s) × All (IsMarked starts) (targets_in pc (lookup_offsets s)))) is_switch holds)

pub returns-in_err-target_at-in-Branch-clause-err :
    goal.returns-in_err-target_at-in-Branch-clause-err
returns-in_err-target_at-in-Branch-clause-err c =
    let short : FitsSigned w16 c.s2_at-in-Branch.result = search rules in
    let fits : FitsSigned w32 c.from-offset.result = search rules in
    let same = to_z-of_z w32 _ fits ∙ c.from-offset.ensures ∙ to_z-of_z w16 _ short ∙ c.s2_at-in-Branch.ensures in
    rw c.in-Branch.is (handed_on c.from_residual.result _ _ c.from_residual.ensures.1 (miss_first _ _ _ [] _ _ same c.in_err-target_at-in-Branch.ensures.err))

pub returns-in_err-target_at-in-LongBranch-clause-err :
    goal.returns-in_err-target_at-in-LongBranch-clause-err
returns-in_err-target_at-in-LongBranch-clause-err c =
    let fits : FitsSigned w32 c.s4_at.result = search rules in
    rw c.in-LongBranch.is (handed_on c.from_residual-in_err-target_at-in-LongBranch.result _ _ c.from_residual-in_err-target_at-in-LongBranch.ensures.1 (miss_first _ _ _ [] _ _ (to_z-of_z w32 _ fits ∙ c.s4_at.ensures) c.in_err-target_at-in-LongBranch.ensures.err))

pub returns-in-Table-clause-err : goal.returns-in-Table-clause-err
returns-in-Table-clause-err c = rw (c.in-Table.is, ← c.behind_padding.ensures) c.table_at.ensures.err

pub returns-in-Lookup-clause-ok : goal.returns-in-Lookup-clause-ok
returns-in-Lookup-clause-ok c = lifted c.args.pc c.args.form c.args.behind.now _ c.args.starts.now c.lookup_at.result c.in-Lookup.is c.behind_padding-in-Lookup.ensures c.lookup_at.ensures.ok

pub returns-in-Lookup-clause-err : goal.returns-in-Lookup-clause-err
returns-in-Lookup-clause-err c = rw (c.in-Lookup.is, ← c.behind_padding-in-Lookup.ensures) c.lookup_at.ensures.err
