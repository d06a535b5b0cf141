use Rattle.std.proofs.Common.{arith}
use Rattle.cb_blocks.proofs.Laws.{index_below}
use Rattle.cb_partheap.proofs.words.move_placed.Goals as goal

pub index_at-requires : goal.index_at-requires
index_at-requires c =
    let sound = c.blocks_free-sound.ensures.sound in
    omega (arith, c.requires.source, index_below c.args.words.now c.args.part c.args.from sound c.requires.part (omega (arith, c.requires.inside, c.requires.some)), sound.bound)

pub index_at-requires-2 : goal.index_at-requires-2
index_at-requires-2 c =
    let sound = c.blocks_free-sound.ensures.sound in
    omega (arith, c.requires.target, index_below c.args.words.now c.args.part c.args.to sound c.requires.part (omega (arith, c.requires.inside, c.requires.some, c.requires.order)), sound.bound)

pub move_at-requires-clause-source : goal.move_at-requires-clause-source
move_at-requires-clause-source c =
    let sound = c.blocks_free-sound.ensures.sound in
    (c.requires.part, omega (arith, c.requires.inside, c.requires.some), omega (arith, c.index_at.ensures, c.requires.source, index_below c.args.words.now c.args.part c.args.from sound c.requires.part (omega (arith, c.requires.inside, c.requires.some)), sound.bound))

pub move_at-requires-clause-target : goal.move_at-requires-clause-target
move_at-requires-clause-target c =
    let sound = c.blocks_free-sound.ensures.sound in (
      c.requires.part,
      omega (arith, c.requires.inside, c.requires.some, c.requires.order),
      omega (arith, c.index_at-2.ensures, c.requires.target, index_below c.args.words.now c.args.part c.args.to sound c.requires.part (omega (arith, c.requires.inside, c.requires.some, c.requires.order)), sound.bound),
    )
