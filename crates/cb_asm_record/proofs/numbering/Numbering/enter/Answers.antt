use Rattle.std.proofs.Common.{[], ◌∷◌, ◌++◌}
use Rattle.cb_asm_record.specs.Inner.{key_entry, parts_of}
use Rattle.cb_asm_record.proofs.Handed.{handed}
use Rattle.cb_asm_record.proofs.Holding.{hopeless_first, parts_before, parts_there, then_used}
use Rattle.cb_asm_record.proofs.numbering.Numbering.enter.Goals as goal

pub returns-in_err-add_parts : goal.returns-in_err-add_parts
returns-in_err-add_parts c = λ used holds.
    let entry = key_entry c.args.key in
    rw (parts_before entry) (handed _ _ _ _ c.from_residual.ensures (hopeless_first used (parts_of entry) (entry ∷ []) _ (c.in_err-add_parts.ensures used holds)))

pub returns : goal.returns
returns c = λ used holds.
    let entry = key_entry c.args.key in
    rw (parts_before entry) (then_used used (parts_of entry) (entry ∷ []) _ _ _ (c.add.ensures (used ++ parts_of entry) (c.in_ok-add_parts.ensures used holds) (parts_there used entry)))
