use Rattle.std.proofs.Common.{◌≡◌, length}
use Rattle.cb_load.specs.InnerEntering.{marked}
use Rattle.cb_load.specs.Inner.{entered_all}
use Rattle.cb_load.specs.Names.{names_in}
use Rattle.cb_load.proofs.text_names.enter_descriptor.Given as goal

abbrev pub invariant-loop-name : goal.invariant-loop-name
invariant-loop-name l = entered_all l.entries (marked l.needed (names_in l.rest)) ≡ entered_all l.initial.entries (marked l.initial.needed (names_in l.initial.text))

abbrev pub decreases-loop-name : goal.decreases-loop-name
decreases-loop-name l = length l.rest
