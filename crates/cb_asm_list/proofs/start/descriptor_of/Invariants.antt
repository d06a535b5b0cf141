use Rattle.std.proofs.Common.{◌≡◌, replicate}
use Rattle.cb_names.specs.Signs.{bracket}
use Rattle.cb_asm_list.proofs.start.descriptor_of.Given as goal

abbrev pub invariant-loop-dimension : goal.invariant-loop-dimension
invariant-loop-dimension l = l.units ≡ replicate l._dimension bracket
