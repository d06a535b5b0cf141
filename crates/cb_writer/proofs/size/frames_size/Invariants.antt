use Rattle.std.proofs.Common.{◌≡◌, ◌+◌, ◌*◌, ◌≤◌, length, take}
use Rattle.std.specs.List.{flat_map}
use Rattle.cb_classfile.specs.FrameMap.{frame_bytes}
use Rattle.cb_writer.proofs.size.frames_size.Given as goal

abbrev pub invariant-loop-frame : goal.invariant-loop-frame
invariant-loop-frame l = (l.size ≡ 2 + length (flat_map frame_bytes (take l.frame-index l.frames))) × (l.size ≤ 2 + 1048576 * l.frame-index)
