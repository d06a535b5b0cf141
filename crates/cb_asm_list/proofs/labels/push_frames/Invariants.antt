use Rattle.std.proofs.Common.{◌≡◌, ◌++◌, take}
use Rattle.std.specs.List.{flat_map}
use Rattle.cb_asm_list.specs.Listing.{optional_places}
use Rattle.cb_asm_list.proofs.labels.push_frames.Given as goal

abbrev pub invariant-loop-frame : goal.invariant-loop-frame
invariant-loop-frame l = l.places ≡ l.initial.places ++ flat_map optional_places (take l.frame-index l.frames)
