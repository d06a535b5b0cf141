use Rattle.std.proofs.Common.{◌≡◌, ◌*◌, ◌≤◌, length, take}
use Rattle.std.specs.List.{flat_map}
use Rattle.cb_classfile.specs.FrameMap.{type_bytes}
use Rattle.cb_writer.proofs.size.types_size.Given as goal

abbrev pub invariant-loop-kind : goal.invariant-loop-kind
invariant-loop-kind l = (l.size ≡ length (flat_map type_bytes (take l.kind-index l.types))) × (l.size ≤ 3 * l.kind-index)
