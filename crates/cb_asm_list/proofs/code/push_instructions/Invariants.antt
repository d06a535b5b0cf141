use Rattle.std.proofs.Common.{◌≡◌, ◌++◌, take, string_bytes}
use Rattle.std.specs.List.{flat_map}
use Rattle.cb_asm_list.specs.Inner.{placed_text}
use Rattle.cb_asm_list.proofs.code.push_instructions.Given as goal

abbrev pub invariant-loop-placed : goal.invariant-loop-placed
invariant-loop-placed l = string_bytes l.text ≡ string_bytes l.initial.text ++ flat_map (placed_text l.class l.labels) (take l.placed-index l.code)
