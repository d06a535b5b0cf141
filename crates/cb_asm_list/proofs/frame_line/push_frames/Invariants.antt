use Rattle.std.proofs.Common.{◌≡◌, ◌++◌, take, string_bytes}
use Rattle.std.specs.List.{flat_map}
use Rattle.cb_asm_list.specs.Inner.{frame_text}
use Rattle.cb_asm_list.proofs.frame_line.push_frames.Given as goal

abbrev pub invariant-loop-frame : goal.invariant-loop-frame
invariant-loop-frame l = string_bytes l.text ≡ string_bytes l.initial.text ++ flat_map (frame_text l.labels) (take l.frame-index l.frames)
