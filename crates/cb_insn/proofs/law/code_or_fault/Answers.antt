use Rattle.cb_insn.proofs.Codes.{code_covers, no_fault_in, no_bad_target, same_place, same_target}
use Rattle.cb_insn.proofs.Deciding.{decided}
use Rattle.cb_insn.proofs.law.code_or_fault.Goals as goal

pub returns : goal.returns
returns c = record {
  some = decided;
  no_fault_of_code = λ bytes code pc fault spells has. no_fault_in bytes pc fault (code_covers bytes code spells).whole has;
  no_bad_target_of_code = no_bad_target;
  no_bad_target_beside_a_fault = λ bytes pc other fault has astray. no_fault_in bytes pc fault astray.whole has;
  one_fault = same_place;
  one_bad_target = same_target;
}
