use Rattle.std.proofs.Common.{◌≡◌, drop, map}
use Rattle.cb_hierarchy.specs.Inner.{of_objects}
use Rattle.cb_hierarchy.specs.Members.{method_of}
use Rattle.cb_hierarchy.specs.Resolution.{first_of, first_some}
use Rattle.cb_hierarchy.specs.Selection.{declared_upwards}
use Rattle.cb_hierarchy.proofs.upward.first_upwards.Given as goal

abbrev pub invariant-loop-number : goal.invariant-loop-number
invariant-loop-number l =
    first_some (map (λ number. of_objects l.methods (method_of l.methods number l.signature)) (drop l.number-index l.number-items))
    ≡ first_of (declared_upwards l.hierarchy l.methods l.class l.signature)
