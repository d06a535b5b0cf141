use Rattle.std.proofs.Common.{take}
use Rattle.cb_asm_record.specs.Inner.{HasCode}
use Rattle.cb_asm_record.proofs.code.code_of.Given as goal

abbrev pub invariant-loop-line : goal.invariant-loop-line
invariant-loop-line l = HasCode l.constants l.labels (take l.line-index l.lines) l.code l.pc
