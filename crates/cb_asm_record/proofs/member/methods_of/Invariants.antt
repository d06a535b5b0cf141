use Rattle.std.proofs.Common.{map, take}
use Rattle.std.specs.List.{AllByRecursion}
use Rattle.cb_asm_record.specs.Record.{method_of}
use Rattle.cb_asm_record.specs.Inner.{Gives, MethodHasBody}
use Rattle.cb_asm_record.proofs.member.methods_of.Given as goal

abbrev pub invariant-loop-text : goal.invariant-loop-text
invariant-loop-text l = Gives (map (method_of l.constants) (take l.text-index l.texts)) (AllByRecursion (MethodHasBody) (take l.text-index l.texts)) l.methods
