use Rattle.std.proofs.Common.{◌≡◌, take}
use Rattle.std.specs.List.{flat_map}
use Rattle.cb_kinds.specs.Kinds.{kinds_of_name}
use Rattle.cb_kinds.specs.Texts.{entered_all}
use Rattle.cb_link.proofs.fixed.enter_named.Given as goal

abbrev pub invariant-loop-name : goal.invariant-loop-name
invariant-loop-name l = l.kinds ≡ entered_all l.initial.kinds (flat_map (λ name. kinds_of_name name.now) (take l.name-index l.names))
