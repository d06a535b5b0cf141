use Rattle.cb_asm_record.proofs.Handed.{handed}
use Rattle.cb_asm_record.proofs.Recording.{recorded, refused_methods, refused_pool}
use Rattle.cb_asm_record.proofs.making.class_of.Goals as goal

pub returns-in_err-constants : goal.returns-in_err-constants
returns-in_err-constants c = handed _ _ _ _ c.from_residual-in_err-constants.ensures (refused_pool c.args.program.now _ _ c.in_ok-uses.ensures c.in_err-constants.ensures)

pub returns-in_err-methods : goal.returns-in_err-methods
returns-in_err-methods c = handed _ _ _ _ c.from_residual-in_err-methods.ensures (refused_methods c.args.program.now _ _ c.as_slice-3.ensures c.in_err-methods.ensures)

pub returns : goal.returns
returns c =
    recorded c.args.program.now _ _ _ _ _ _ _ _ _ _ _ c.in_ok-uses.ensures c.in_ok-constants.ensures c.as_slice.ensures c.as_slice-2.ensures c.as_slice-3.ensures
    c.into_pool.ensures c.class-this_class.ensures c.optional_class-super_class.ensures c.in_ok-interfaces.ensures c.in_ok-fields.ensures c.in_ok-methods.ensures
