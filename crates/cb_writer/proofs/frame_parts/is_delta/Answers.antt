use Rattle.std.proofs.Common.{refl}
use Rattle.cb_writer.proofs.FrameParts.{delta_has}
use Rattle.cb_writer.proofs.frame_parts.is_delta.Goals as goal

pub returns-in_default : goal.returns-in_default
returns-in_default c =
    (λ is. delta_has c.args.form c.args.kind c.args.delta c.in_default.not-Same c.in_default.not-SameOneItem c.in_default.not-Reserved c.ranges.delta.fits, λ has. refl)
