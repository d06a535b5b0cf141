use Rattle.std.proofs.Common.{arith}
use Rattle.cb_kinds.proofs.SignPlaces.{none_in}
use Rattle.cb_kinds.proofs.descriptor.end_of_name.Goals as goal

pub returns-else-place-text : goal.returns-else-place-text
returns-else-place-text c = none_in c.args.text.now (omega (arith, c.place_of-place.ensures))
