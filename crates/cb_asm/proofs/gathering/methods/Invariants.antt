use Rattle.std.proofs.Common.{◌≡◌, ◌++◌, length}
use Rattle.std.specs.List.{AllByRecursion, flat_map}
use Rattle.cb_asm.specs.Inner.{IsMethod}
use Rattle.cb_asm_line.specs.Statements.{method_statements}
use Rattle.cb_asm.proofs.gathering.methods.Given as goal

abbrev pub invariant-methods : goal.invariant-methods
invariant-methods l =
    (l.initial.lines.items ≡ flat_map method_statements l.methods ++ l.lines.items) × AllByRecursion IsMethod l.methods

abbrev pub decreases-methods : goal.decreases-methods
decreases-methods l = length l.lines.items
