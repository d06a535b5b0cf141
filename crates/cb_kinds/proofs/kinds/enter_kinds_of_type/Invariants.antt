use Rattle.std.proofs.Common.{◌≡◌, length}
use Rattle.cb_kinds.specs.Kinds.{kinds_of_type}
use Rattle.cb_kinds.specs.Texts.{entered_all}
use Rattle.cb_kinds.proofs.kinds.enter_kinds_of_type.Given as goal

abbrev pub invariant-loop-unit : goal.invariant-loop-unit
invariant-loop-unit l = entered_all l.kinds (kinds_of_type l.rest) ≡ entered_all l.initial.kinds (kinds_of_type l.initial.text)

abbrev pub decreases-loop-unit : goal.decreases-loop-unit
decreases-loop-unit l = length l.rest
