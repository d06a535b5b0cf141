use Rattle.std.proofs.Common.{map, take}
use Rattle.std.specs.List.{AllByRecursion}
use Rattle.cb_asm_record.specs.Grammar.{TypeHasLabel}
use Rattle.cb_asm_record.specs.Record.{map_type_of}
use Rattle.cb_asm_record.specs.Labels.{place_at}
use Rattle.cb_asm_record.specs.Inner.{Gives}
use Rattle.cb_asm_record.proofs.frame.types_of.Given as goal

abbrev pub invariant-loop-kind : goal.invariant-loop-kind
invariant-loop-kind l = Gives (map (map_type_of l.constants (place_at l.labels)) (take l.kind-index l.types)) (AllByRecursion (TypeHasLabel l.labels) (take l.kind-index l.types)) l.map_types
