use Rattle.std.proofs.Common.{◌≡◌, ◌++◌, take}
use Rattle.std.specs.List.{flat_map}
use Rattle.cb_asm_list.specs.Listing.{handler_places}
use Rattle.cb_asm_list.proofs.labels.push_handlers.Given as goal

abbrev pub invariant-loop-handler : goal.invariant-loop-handler
invariant-loop-handler l = l.places ≡ l.initial.places ++ flat_map handler_places (take l.handler-index l.handlers)
