use Rattle.cb_asm_record.proofs.Using.{frames_named, then_more}
use Rattle.cb_asm_record.proofs.uses.use_frames.Goals as goal

pub returns : goal.returns
returns c =
    let named = frames_named c.args.frames.now (λ none. let is = c.is_empty.ensures.1 none in let not = c.if-is_empty.false in cc) in
    rw named (then_more _ _ _ _ _ _ c.in_ok-use_text.ensures c.use_each_frame.ensures)
