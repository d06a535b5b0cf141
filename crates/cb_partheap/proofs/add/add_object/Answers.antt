use Rattle.cb_partheap.specs.Words.{blank_words}
use Rattle.cb_partheap.proofs.Adds.{added, place_at}
use Rattle.cb_partheap.proofs.add.add_object.Goals as goal

pub returns-clause-added : goal.returns-clause-added
returns-clause-added c =
    added c.args.words.now c.add-index.new.self c.args.part (blank_words c.args.header.kind c.args.header.size c.args.header.serial c.args.header.site) c.requires.sound c.requires.part c.blocks_free-sound.ensures.sound c.add-index.ensures.added

pub returns-clause-place : goal.returns-clause-place
returns-clause-place c = place_at c.args.words.now c.add-index.new.self c.args.part c.add-index.result c.add-index.ensures.place
