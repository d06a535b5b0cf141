use Rattle.std.proofs.Common.{take}
use Rattle.cb_asm_record.specs.Inner.{HasFrames}
use Rattle.cb_asm_record.proofs.frame.frames_of.Given as goal

abbrev pub invariant-loop-line : goal.invariant-loop-line
invariant-loop-line l = HasFrames l.constants l.labels (take l.line-index l.lines) l.frames l.previous
