use Rattle.cb_classfile.proofs.Failing.{handed}
use Rattle.cb_classfile.proofs.Framing.{delta_stands}
use Rattle.cb_classfile.proofs.OneFrame.{exact_delta}
use Rattle.cb_classfile.proofs.OneItem.{front}
use Rattle.cb_classfile.proofs.frame_map.delta_at.Goals as goal

pub returns-in_err-delta-in_default : goal.returns-in_err-delta-in_default
returns-in_err-delta-in_default c =
    handed _ _ _ _ c.from_residual.ensures (λ delta rest (first, spelled, split).
    c.in_err-delta-in_default.ensures delta rest (first, (delta_stands c.args.form c.args.kind first delta c.in_default.not-Same c.in_default.not-SameOneItem c.in_default.not-Reserved).0 spelled, split))

pub returns-in_ok-delta-in_default : goal.returns-in_ok-delta-in_default
returns-in_ok-delta-in_default c =
    let (first, spelled, split) = c.in_ok-delta-in_default.ensures.found in
    front (exact_delta _ _) (first, (delta_stands c.args.form c.args.kind first _ c.in_default.not-Same c.in_default.not-SameOneItem c.in_default.not-Reserved).1 spelled, split)
