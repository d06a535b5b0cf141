use Rattle.cb_asm.proofs.Labels.{adds, line_more, stand_instruction, stand_label}
use Rattle.cb_asm.proofs.open_labels.standing_labels.Goals as goal
use Rattle.cb_asm.proofs.open_labels.standing_labels.Goals.{in-Here+in_ok-insert, in_default}

pub loop-line-preserved : goal.loop-line-preserved
loop-line-preserved c =
    let more = line_more c.args.lines.now _ _ c.loop-line-test.true c.line-item.is in
    elim c.match-line.branch [
      | in-Here+in_ok-insert w ↦ rw (w.standing-is, more, w.in-Here.is) (stand_label _ _ _ _ c.loop-line.invariant (rw w.as_slice.ensures at (adds w.as_slice.result _ _ w.in_ok-insert.ensures.updates)))
      | in_default w ↦ rw (w.standing-is, more, w.in_default.is) (stand_instruction _ _ _ c.loop-line.invariant)
    ]
