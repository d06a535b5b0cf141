use Rattle.std.proofs.Common.{◌≡◌, ◌++◌, take}
use Rattle.cb_insn.specs.Writing.{code_bytes}
use Rattle.cb_insn.proofs.encoder.encode_into.Given as goal

abbrev pub invariant-loop-placed : goal.invariant-loop-placed
invariant-loop-placed l = l.bytes.items ≡ l.initial.bytes.items ++ code_bytes (take l.placed-index l.placed-items)
