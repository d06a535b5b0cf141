use Rattle.std.proofs.Common.{◌≡◌, map, take}
use Rattle.cb_kinds.specs.Basics.{kind_number}
use Rattle.cb_link.proofs.fixed.numbers_of.Given as goal

abbrev pub invariant-loop-name : goal.invariant-loop-name
invariant-loop-name l = l.numbers ≡ map (λ name. kind_number l.kinds name.now) (take l.name-index l.names)
