use Rattle.std.proofs.Common.{◌≡◌, ◌++◌, length}
use Rattle.std.specs.List.{AllByRecursion}
use Rattle.cb_asm.specs.Inner.{said_text}
use Rattle.cb_asm_line.specs.Statements.{IsStatement}
use Rattle.cb_asm.proofs.reading.statements.Given as goal

abbrev pub invariant-lines : goal.invariant-lines
invariant-lines l = (l.initial.text ≡ said_text l.lines.items ++ l.rest) × AllByRecursion IsStatement l.lines.items

abbrev pub decreases-lines : goal.decreases-lines
decreases-lines l = length l.rest
