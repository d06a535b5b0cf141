use Rattle.std.proofs.Common.{sym}
use Rattle.cb_heap.specs.Kept.{content_at}
use Rattle.cb_heap.specs.Reading.{serial_of}
use Rattle.cb_natives.proofs.Units.{unit_so}
use Rattle.cb_natives.proofs.Writes.{word_so}
use Rattle.cb_natives.proofs.writing.word_unit.Goals as goal

pub overflow_cast-result : goal.overflow_cast-result
overflow_cast-result g c =
    let content = content_at (g.S.Store.storage c.args.store.now).kept (serial_of (g.S.Store.storage c.args.store.now).index c.args.array) c.args.word in
    record { fits = (unit_so content c.get.result c.requires c.get.type_inv c.get.ensures).0 }

pub returns : goal.returns
returns g c =
    let content = content_at (g.S.Store.storage c.args.store.now).kept (serial_of (g.S.Store.storage c.args.store.now).index c.args.array) c.args.word in
    sym (word_so content c.get.result (unit_so content c.get.result c.requires c.get.type_inv c.get.ensures).1)
