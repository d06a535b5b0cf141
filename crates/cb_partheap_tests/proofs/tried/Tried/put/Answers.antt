use Rattle.std.proofs.Common.{pos}
use Rattle.std.specs.Int.{int_wrap, w64}
use Rattle.cb_plain.specs.State.{Number}
use Rattle.cb_heap.specs.Reading.{serial_of}
use Rattle.cb_partheap.specs.Heaps.{index_in}
use Rattle.cb_partheap_tests.proofs.Kept.{put_kept}
use Rattle.cb_partheap_tests.proofs.tried.Tried.put.Goals as goal

pub returns-in-Some-false-clause-kept : goal.returns-in-Some-false-clause-kept
returns-in-Some-false-clause-kept c =
    put_kept c.args.self.now.heap c.put.new.self c.args.self.now.places.items (serial_of (index_in c.args.self.now.heap) c.args.at) c.args.i (Number (int_wrap w64 (pos c.args.number))) c.requires.kept c.put.ensures.kept c.put.ensures.places
