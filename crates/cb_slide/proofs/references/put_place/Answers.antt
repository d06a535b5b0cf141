use Rattle.std.proofs.Common.{◌+◌}
use Rattle.cb_slide.proofs.Moves.{same_put}
use Rattle.cb_slide.proofs.references.put_place.Goals as goal

pub returns-else-new-old : goal.returns-else-new-old
returns-else-new-old c spot word = same_put c.args.words.now spot.part (spot.start + c.args.i) c.args.old c.args.new (c.requires.read spot word) c.if-new-old.false
