use Rattle.std.proofs.Common.{map, take}
use Rattle.std.specs.List.{AllByRecursion}
use Rattle.cb_asm_record.specs.Grammar.{CatchHasLabels}
use Rattle.cb_asm_record.specs.Record.{handler_of}
use Rattle.cb_asm_record.specs.Labels.{place_at}
use Rattle.cb_asm_record.specs.Inner.{Gives}
use Rattle.cb_asm_record.proofs.handler.handlers_of.Given as goal

abbrev pub invariant-loop-entry : goal.invariant-loop-entry
invariant-loop-entry l = Gives (map (handler_of l.constants (place_at l.labels)) (take l.entry-index l.catches)) (AllByRecursion (CatchHasLabels l.labels) (take l.entry-index l.catches)) l.handlers
