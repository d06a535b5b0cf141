use Rattle.std.proofs.Common.{◌≡◌, ◌∙◌, ap, sym, subst, [], IfOk, Option}
use Rattle.cb_verify.specs.Expansion.{reversed}
use Rattle.cb_verify.specs.Frames.{Frame, with_stack}
use Rattle.cb_verify.specs.InnerLaid.{bare}
use Rattle.cb_verify.specs.Within.{Within}
use Rattle.cb_verify.proofs.Stacking.{framed}
use Rattle.cb_verify.proofs.expansion.frame_of.Goals as goal

pub returns : goal.returns
returns c =
    subst (λ (whole : Option Frame). IfOk c.stacked.result (λ frame. frame ≡ whole))
    (ap (λ (own : Frame). with_stack c.method.inside.body.now.max_stack own (reversed [] c.args.types.now)) c.in_ok-bare.ensures
    ∙ ap (λ (method : Within). with_stack method.body.max_stack (bare c.args.laid.now) (reversed [] c.args.types.now)) c.method.view_is
    ∙ sym (framed c.args.method.now c.args.laid.now c.args.types.now c.requires))
    c.stacked.ensures
