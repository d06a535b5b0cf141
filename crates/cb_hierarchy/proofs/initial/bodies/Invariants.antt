use Rattle.std.proofs.Common.{◌≡◌, ℕ, nat_eq, take}
use Rattle.std.specs.HashSet.{contains}
use Rattle.cb_hierarchy.specs.Initial.{declares_body}
use Rattle.cb_hierarchy.proofs.initial.bodies.Given as goal

abbrev pub invariant-loop-number : goal.invariant-loop-number
invariant-loop-number l = (class : ℕ) → contains nat_eq l.bodies class ≡ declares_body (take l.number l.methods) class
