use Rattle.std.proofs.Common.{◌≡◌, drop, map}
use Rattle.cb_classfile.specs.Expansion.{all_of}
use Rattle.cb_asm_list.specs.Expansion.{type_in, types_in}
use Rattle.cb_asm_list.proofs.AllOf.{behind_these}
use Rattle.cb_asm_list.proofs.frame_types.types_in.Given as goal

abbrev pub invariant-loop-kind : goal.invariant-loop-kind
invariant-loop-kind l = types_in l.pool l.kinds ≡ behind_these l.types (all_of (map (type_in l.pool) (drop l.kind-index l.kinds)))
