use Rattle.std.proofs.Common.{refl}
use Rattle.cb_asm.proofs.Parts.{frame_there}
use Rattle.cb_asm.proofs.part.FrameLinePart.is_of.Goals as goal

pub returns-in-Frame : goal.returns-in-Frame
returns-in-Frame c = ((λ _. frame_there c.args.statement.now c.in-Frame.field-0 c.in-Frame.is), (λ _. refl))
