use Rattle.std.proofs.Common.{◌≡◌, ◌++◌, take}
use Rattle.std.specs.List.{flat_map}
use Rattle.cb_asm_list.specs.Listing.{type_places}
use Rattle.cb_asm_list.proofs.labels.push_types.Given as goal

abbrev pub invariant-loop-kind : goal.invariant-loop-kind
invariant-loop-kind l = l.places ≡ l.initial.places ++ flat_map type_places (take l.kind-index l.types)
