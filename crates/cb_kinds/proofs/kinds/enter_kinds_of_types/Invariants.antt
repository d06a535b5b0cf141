use Rattle.std.proofs.Common.{◌≡◌, length}
use Rattle.std.specs.List.{flat_map}
use Rattle.cb_kinds.specs.Descriptors.{types_of}
use Rattle.cb_kinds.specs.Kinds.{kinds_of_type}
use Rattle.cb_kinds.specs.Texts.{entered_all}
use Rattle.cb_kinds.proofs.kinds.enter_kinds_of_types.Given as goal

abbrev pub invariant-loop-sign : goal.invariant-loop-sign
invariant-loop-sign l = entered_all l.kinds (flat_map kinds_of_type (types_of l.rest)) ≡ entered_all l.initial.kinds (flat_map kinds_of_type (types_of l.initial.descriptor))

abbrev pub decreases-loop-sign : goal.decreases-loop-sign
decreases-loop-sign l = length l.rest
