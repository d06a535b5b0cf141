use Rattle.std.proofs.Common.{◌≡◌, filter, take}
use Rattle.cb_asm_list.specs.Listing.{among}
use Rattle.cb_asm_list.proofs.labels.places_among.Given as goal

abbrev pub invariant-loop-place : goal.invariant-loop-place
invariant-loop-place l = l.both ≡ filter (among l.others) (take l.place-index l.places)
