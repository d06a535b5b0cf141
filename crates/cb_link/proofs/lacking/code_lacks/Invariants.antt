use Rattle.std.proofs.Common.{◌≡◌, None, take}
use Rattle.cb_link.specs.InnerLacked.{code_lacks}
use Rattle.cb_link.proofs.lacking.code_lacks.Given as goal

abbrev pub invariant-loop-insn : goal.invariant-loop-insn
invariant-loop-insn l = code_lacks l.resolver l.number l.pool (take l.insn-index l.code) ≡ None
