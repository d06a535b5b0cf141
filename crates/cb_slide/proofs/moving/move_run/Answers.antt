use Rattle.std.proofs.Common.{arith}
use Rattle.cb_slide.proofs.Moves.{none_moved, nothing_moved}
use Rattle.cb_slide.proofs.moving.move_run.Goals as goal

pub returns-then-count-eq0-clause-words : goal.returns-then-count-eq0-clause-words
returns-then-count-eq0-clause-words g c = none_moved c.args.words.now c.args.part c.args.from c.args.to c.args.count c.if-count-eq0.true

pub place_past-target-requires-clause-there : goal.place_past-target-requires-clause-there
place_past-target-requires-clause-there g c = c.requires.target.there (omega (arith, c.blocks_free-sound.ensures.sound.exact c.args.part c.requires.part, c.requires.inside, c.requires.order, c.if-count-eq0.false))

pub returns-else-to-from-clause-words : goal.returns-else-to-from-clause-words
returns-else-to-from-clause-words g c = nothing_moved c.args.words.now c.args.part c.args.from c.args.to c.args.count c.if-to-from.false c.requires.inside
