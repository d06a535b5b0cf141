use Rattle.std.proofs.Common.{◌∙◌, ◌+◌, ◌++◌, ap, sym, take}
use Rattle.std.specs.Option.{option_and_then}
use Rattle.cb_verify.specs.InnerCopies.{inserted}
use Rattle.cb_verify.specs.Frames.{Frame, with_stack}
use Rattle.cb_verify.proofs.FrameLists.{legal_is}
use Rattle.cb_verify.proofs.Shuffling.{copied_is}
use Rattle.cb_verify.proofs.type_frame.TypeFrame.copied.Goals as goal

pub returns : goal.returns
returns c =
    let stack = c.args.self.now.stack in
    let count = c.in-Some.count in
    let depth = count + c.in-Some-count_of_any.more in
    c.legal.ensures
    ∙ legal_is c.args.most c.args.self.now c.in_ok-all.all (inserted count depth stack)
    (c.in_ok-all.ensures
    ∙ ap (λ (frame : Frame). record { locals = frame.locals; stack = take depth stack ++ frame.stack; unfinished = frame.unfinished })
    (c.in_ok-copied.ensures
    ∙ ap (λ (frame : Frame). record { locals = frame.locals; stack = take count stack ++ frame.stack; unfinished = frame.unfinished }) c.in_ok-below.ensures))
    ∙ sym (ap (option_and_then (with_stack c.args.most c.args.self.now))
    (copied_is c.args.wanted c.args.under stack count c.in-Some-count_of_any.more c.in-Some.ensures.count c.in-Some-count_of_any.ensures.count))
