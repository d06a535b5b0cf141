use Rattle.cb_asm.proofs.Parts.{no_frame}
use Rattle.cb_asm.proofs.part.FrameLinePart.of.Goals as goal

pub returns : goal.returns
returns c = no_frame c.args.statement c.in_default.not-Frame
