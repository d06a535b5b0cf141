use Rattle.std.proofs.Common.{◌≡◌, take}
use Rattle.cb_insn.specs.Places.{places}
use Rattle.cb_asm_list.proofs.labels.places_of.Given as goal

abbrev pub invariant-loop-placed : goal.invariant-loop-placed
invariant-loop-placed l = l.places ≡ places (take l.placed-index l.body.code)
