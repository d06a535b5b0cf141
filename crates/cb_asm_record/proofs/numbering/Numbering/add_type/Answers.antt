use Rattle.std.proofs.Common.{[], ◌∷◌, ◌++◌}
use Rattle.cb_asm_record.specs.Entries.{NameAndType, Text}
use Rattle.cb_asm_record.proofs.Handed.{handed}
use Rattle.cb_asm_record.proofs.Holding.{hopeless_first, then_used, type_parts}
use Rattle.cb_asm_record.proofs.numbering.Numbering.add_type.Goals as goal

pub returns-in_err-add_texts : goal.returns-in_err-add_texts
returns-in_err-add_texts c = λ used holds.
    handed _ _ _ _ c.from_residual.ensures (hopeless_first used (Text c.args.name.now ∷ Text c.args.descriptor.now ∷ []) (NameAndType c.args.name.now c.args.descriptor.now ∷ []) _ (c.in_err-add_texts.ensures used holds))

pub returns : goal.returns
returns c = λ used holds.
    then_used used (Text c.args.name.now ∷ Text c.args.descriptor.now ∷ []) (NameAndType c.args.name.now c.args.descriptor.now ∷ []) _ _ _ (c.add.ensures (used ++ Text c.args.name.now ∷ Text c.args.descriptor.now ∷ []) (c.in_ok-add_texts.ensures used holds) (type_parts used c.args.name.now c.args.descriptor.now))
