use Rattle.std.proofs.Common.{◌≡◌, ◌++◌, take}
use Rattle.cb_text.specs.Text.{text_bytes}
use Rattle.cb_text.proofs.text.push_text.Given as goal

abbrev pub invariant-loop-unit : goal.invariant-loop-unit
invariant-loop-unit l = l.out.items ≡ l.initial.out.items ++ text_bytes (take l.unit-index l.units)
