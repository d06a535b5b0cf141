use Rattle.std.proofs.Common.{◌≡◌, drop}
use Rattle.std.specs.List.{flat_map, list_all}
use Rattle.cb_asm_list.specs.Listing.{among, type_places}
use Rattle.cb_asm_list.proofs.expansion.are_placed.Given as goal

abbrev pub invariant-loop-kind : goal.invariant-loop-kind
invariant-loop-kind l = list_all (among l.places) (flat_map type_places l.types) ≡ list_all (among l.places) (flat_map type_places (drop l.kind-index l.types))
