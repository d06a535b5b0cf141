use Rattle.std.proofs.Common.{◌≡◌, map, take}
use Rattle.cb_core.specs.Recorded.{entered, with_each, with_insn}
use Rattle.cb_core.specs.Rowed.{insn_row}
use Rattle.cb_core.proofs.Coded.{GathersCode}
use Rattle.cb_core.proofs.code.code_of.Given as goal

abbrev pub invariant-loop-i : goal.invariant-loop-i
invariant-loop-i l = record {
  gathers : GathersCode l.places l.rows l.i l.fn.pool l.pool l.code;
  made : with_each (with_insn l.places) (map insn_row (take l.i l.rows)) l.fn.pool ≡ entered l.pool (map (λ placed. placed.1) l.code);
}
