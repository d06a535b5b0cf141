use Rattle.std.proofs.Common.{◌≡◌, drop, map}
use Rattle.cb_hierarchy.specs.Members.{method_of}
use Rattle.cb_hierarchy.specs.Resolution.{first_some}
use Rattle.cb_hierarchy.proofs.resolution.first_declared.Given as goal

abbrev pub invariant-loop-number : goal.invariant-loop-number
invariant-loop-number l =
    first_some (map (λ number. method_of l.methods number l.signature) (drop l.number-index l.numbers)) ≡ first_some (map (λ number. method_of l.methods number l.signature) l.numbers)
