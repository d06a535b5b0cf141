use Rattle.std.proofs.Common.{◌∙◌, ◌∷◌, ap, drop, sym}
use Rattle.std.specs.Option.{option_and_then}
use Rattle.cb_verify.specs.Frames.{Frame, with_stack}
use Rattle.cb_verify.proofs.FrameLists.{legal_is}
use Rattle.cb_verify.proofs.Shuffling.{swapped_is}
use Rattle.cb_verify.proofs.type_frame.TypeFrame.swapped.Goals as goal

pub returns : goal.returns
returns c =
    let stack = c.args.self.now.stack in
    let one = c.top.result in
    let other = c.top-2.result in
    c.legal.ensures
    ∙ legal_is c.args.most c.args.self.now c.in_ok-all.all (other ∷ one ∷ drop 2 stack)
    (c.in_ok-all.ensures
    ∙ ap (λ (frame : Frame). record { locals = frame.locals; stack = other ∷ frame.stack; unfinished = frame.unfinished })
    (c.in_ok-other.ensures
    ∙ ap (λ (frame : Frame). record { locals = frame.locals; stack = one ∷ frame.stack; unfinished = frame.unfinished }) c.in_ok-below.ensures))
    ∙ sym (ap (option_and_then (with_stack c.args.most c.args.self.now))
    (swapped_is stack one other (sym c.is_of_category.ensures.is_of ∙ c.if-not-is_of_category.false)
    (sym c.is_of_category-else-not-is_of_category.ensures.is_of ∙ c.if-not-is_of_category-2.false) c.top.ensures c.top-2.ensures))
