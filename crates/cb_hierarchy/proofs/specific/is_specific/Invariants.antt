use Rattle.std.proofs.Common.{◌≡◌, drop}
use Rattle.std.specs.List.{list_any}
use Rattle.cb_hierarchy.specs.Resolution.{is_declared_below}
use Rattle.cb_hierarchy.proofs.specific.is_specific.Given as goal

abbrev pub invariant-loop-other : goal.invariant-loop-other
invariant-loop-other l =
    list_any (λ other. is_declared_below l.hierarchy l.methods other l.method) (drop l.other-index l.candidates)
    ≡ list_any (λ other. is_declared_below l.hierarchy l.methods other l.method) l.candidates
