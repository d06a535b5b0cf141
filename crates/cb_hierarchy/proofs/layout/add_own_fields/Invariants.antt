use Rattle.std.proofs.Common.{◌≡◌, ◌++◌, take}
use Rattle.cb_hierarchy.specs.Layout.{own_fields}
use Rattle.cb_hierarchy.proofs.layout.add_own_fields.Given as goal

abbrev pub invariant-loop-number : goal.invariant-loop-number
invariant-loop-number l = l.list ≡ l.initial.list ++ own_fields (take l.number l.fields) l.class
