use Rattle.std.proofs.Common.{map, take}
use Rattle.std.specs.List.{AllByRecursion}
use Rattle.cb_asm_record.specs.Grammar.{HasLabel}
use Rattle.cb_asm_record.specs.Labels.{place_at}
use Rattle.cb_asm_record.specs.Inner.{Gives}
use Rattle.cb_asm_record.proofs.operand.targets_of.Given as goal

abbrev pub invariant-loop-name : goal.invariant-loop-name
invariant-loop-name l = Gives (map (place_at l.labels) (take l.name-index l.names)) (AllByRecursion (HasLabel l.labels) (take l.name-index l.names)) l.targets
