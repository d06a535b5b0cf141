use Rattle.std.proofs.Common.{◌↔◌, length}
use Rattle.cb_insn.specs.Grammar.{KeysRise}
use Rattle.cb_insn.proofs.size.do_keys_rise.Given as goal

abbrev pub invariant-loop-rest : goal.invariant-loop-rest
invariant-loop-rest l = KeysRise l.pairs ↔ KeysRise l.rest

abbrev pub decreases-loop-rest : goal.decreases-loop-rest
decreases-loop-rest l = length l.rest
