use Rattle.std.proofs.Common.{◌≡◌, ◌-◌, ◌++◌, take}
use Rattle.cb_kinds.specs.Kinds.{kinds_of_type}
use Rattle.cb_link.proofs.array_names.first_kinds.Given as goal

abbrev pub invariant-loop : goal.invariant-loop
invariant-loop l = l.names ++ take (l.most - l.counter) (kinds_of_type l.rest) ≡ take l.most (kinds_of_type l.text)
