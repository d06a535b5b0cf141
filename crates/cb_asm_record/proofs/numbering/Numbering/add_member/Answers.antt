use Rattle.std.proofs.Common.{[], ◌∷◌, ◌++◌}
use Rattle.cb_asm_record.specs.Entries.{Class, NameAndType, Text}
use Rattle.cb_asm_record.proofs.Handed.{handed}
use Rattle.cb_asm_record.proofs.Holding.{hopeless_first, then_used}
use Rattle.cb_asm_record.proofs.numbering.Numbering.add_member.Goals as goal

pub returns-in_err-add_class : goal.returns-in_err-add_class
returns-in_err-add_class c = λ used holds.
    handed _ _ _ _ c.from_residual.ensures (hopeless_first used (Text c.args.class.now ∷ Class c.args.class.now ∷ []) (Text c.args.name.now ∷ Text c.args.descriptor.now ∷ NameAndType c.args.name.now c.args.descriptor.now ∷ []) _ (c.in_err-add_class.ensures used holds))

pub returns : goal.returns
returns c = λ used holds.
    then_used used (Text c.args.class.now ∷ Class c.args.class.now ∷ []) (Text c.args.name.now ∷ Text c.args.descriptor.now ∷ NameAndType c.args.name.now c.args.descriptor.now ∷ []) _ _ _ (c.add_type.ensures (used ++ Text c.args.class.now ∷ Class c.args.class.now ∷ []) (c.in_ok-add_class.ensures used holds))
