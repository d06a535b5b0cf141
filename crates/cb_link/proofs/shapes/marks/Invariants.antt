use Rattle.std.proofs.Common.{◌≡◌, map, take}
use Rattle.cb_link.specs.Slots.{basic_of_field, is_some_reference}
use Rattle.cb_link.proofs.shapes.marks.Given as goal

abbrev pub invariant-loop-number : goal.invariant-loop-number
invariant-loop-number l = l.marks ≡ map (λ number. is_some_reference (basic_of_field l.base number)) (take l.number-index l.layout)
