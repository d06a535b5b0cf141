use Rattle.cb_memory_cases.proofs.Words.{put_stays}
use Rattle.cb_memory_cases.proofs.turns.put_number.Goals as goal

pub returns : goal.returns
returns g c =
    put_stays (g.S.Store.storage c.args.store.now) (g.S.Store.storage c.put.new.self) c.args.at c.args.word c.args.number (c.requires.words.each c.args.word c.requires.below) c.put.ensures.kept c.put.ensures.places
