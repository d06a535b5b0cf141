use Rattle.std.proofs.Common.{◌≡◌, cond, drop}
use Rattle.cb_names.specs.Descriptors.{floating_in, floating_behind}
use Rattle.cb_names.proofs.floating.floating_in.Given as goal

abbrev pub invariant-loop-unit : goal.invariant-loop-unit
invariant-loop-unit l =
    let rest = drop l.unit-index l.descriptor in
    floating_in l.descriptor ≡ cond l.in_class (floating_behind rest) (floating_in rest)
