use Rattle.std.proofs.Common.{◌≡◌, drop, map}
use Rattle.cb_hierarchy.specs.Members.{field_of}
use Rattle.cb_hierarchy.specs.Resolution.{first_some, resolved_field}
use Rattle.cb_hierarchy.proofs.resolution.resolved_field.Given as goal

abbrev pub invariant-loop-number : goal.invariant-loop-number
invariant-loop-number l =
    first_some (map (λ number. field_of l.fields number l.signature) (drop l.number-index l.number-items)) ≡ resolved_field l.hierarchy l.fields l.class l.signature
