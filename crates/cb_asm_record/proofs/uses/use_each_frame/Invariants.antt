use Rattle.std.proofs.Common.{◌≡◌, ◌++◌, take}
use Rattle.std.specs.List.{flat_map}
use Rattle.cb_asm_record.specs.Uses.{frame_uses}
use Rattle.cb_asm_record.proofs.uses.use_each_frame.Given as goal

abbrev pub invariant-loop-frame : goal.invariant-loop-frame
invariant-loop-frame l = l.uses ≡ l.initial.uses ++ flat_map frame_uses (take l.frame-index l.frames)
