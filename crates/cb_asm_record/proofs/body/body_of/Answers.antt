use Rattle.cb_asm_record.proofs.Embodied.{embodied, refused_catches, refused_frames, refused_lines}
use Rattle.cb_asm_record.proofs.Handed.{handed}
use Rattle.cb_asm_record.proofs.body.body_of.Goals as goal

pub returns-in_err-instructions : goal.returns-in_err-instructions
returns-in_err-instructions c =
    handed _ _ _ _ c.from_residual-in_err-instructions.ensures (refused_lines c.args.code.now _ c.in_ok-labels.ensures _ _ c.as_slice.ensures c.in_err-instructions.ensures)

pub returns-in_err-handlers : goal.returns-in_err-handlers
returns-in_err-handlers c =
    handed _ _ _ _ c.from_residual-in_err-handlers.ensures (refused_catches c.args.code.now _ c.in_ok-labels.ensures _ _ c.as_slice-2.ensures c.in_err-handlers.ensures)

pub returns-in_err-frames : goal.returns-in_err-frames
returns-in_err-frames c =
    handed _ _ _ _ c.from_residual-in_err-frames.ensures (refused_frames c.args.code.now _ c.in_ok-labels.ensures _ _ c.as_slice-3.ensures c.in_err-frames.ensures)

pub returns : goal.returns
returns c =
    embodied c.args.code.now _ c.in_ok-labels.ensures _ _ _ _ _ _ _ c.as_slice.ensures c.as_slice-2.ensures c.as_slice-3.ensures c.in_ok-instructions.ensures c.in_ok-handlers.ensures c.in_ok-frames.ensures
