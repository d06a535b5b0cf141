use Rattle.std.proofs.Common.{◌≡◌, length, take}
use Rattle.cb_text.specs.Text.{text_bytes}
use Rattle.cb_text.proofs.text.short_length.Given as goal

abbrev pub invariant-loop-unit : goal.invariant-loop-unit
invariant-loop-unit l = l.size ≡ length (text_bytes (take l.unit-index l.units))
