use Rattle.std.proofs.Common.{[], ◌∷◌, ◌++◌}
use Rattle.cb_asm_record.specs.Entries.{Class, Text}
use Rattle.cb_asm_record.proofs.Handed.{handed}
use Rattle.cb_asm_record.proofs.Holding.{class_part, hopeless_first, no_parts, then_used}
use Rattle.cb_asm_record.proofs.numbering.Numbering.add_class.Goals as goal

pub returns-in_err-add : goal.returns-in_err-add
returns-in_err-add c = λ used holds.
    handed _ _ _ _ c.from_residual.ensures (hopeless_first used (Text c.args.class.now ∷ []) (Class c.args.class.now ∷ []) _ (c.in_err-add.ensures used holds (no_parts used c.args.class.now)))

pub returns : goal.returns
returns c = λ used holds.
    then_used used (Text c.args.class.now ∷ []) (Class c.args.class.now ∷ []) _ _ _ (c.add-2.ensures (used ++ Text c.args.class.now ∷ []) (c.in_ok-add.ensures used holds (no_parts used c.args.class.now)) (class_part used c.args.class.now))
