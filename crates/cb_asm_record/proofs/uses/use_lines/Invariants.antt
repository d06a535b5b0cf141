use Rattle.std.proofs.Common.{◌≡◌, ◌++◌, take}
use Rattle.std.specs.List.{flat_map}
use Rattle.cb_asm_record.specs.Uses.{line_uses}
use Rattle.cb_asm_record.proofs.uses.use_lines.Given as goal

abbrev pub invariant-loop-line : goal.invariant-loop-line
invariant-loop-line l = l.uses ≡ l.initial.uses ++ flat_map line_uses (take l.line-index l.lines)
