use Rattle.cb_plain.specs.State.{Reference}
use Rattle.cb_heap.specs.Reading.{serial_of}
use Rattle.cb_partheap.specs.Heaps.{index_in}
use Rattle.cb_partheap_tests.proofs.Kept.{put_kept}
use Rattle.cb_partheap_tests.proofs.tried.Tried.put_null.Goals as goal

pub returns-in-Some-true-clause-kept : goal.returns-in-Some-true-clause-kept
returns-in-Some-true-clause-kept c =
    put_kept c.args.self.now.heap c.put_ref.new.self c.args.self.now.places.items (serial_of (index_in c.args.self.now.heap) c.args.at) c.args.i (Reference (serial_of (index_in c.args.self.now.heap) 0)) c.requires.kept c.put_ref.ensures.kept c.put_ref.ensures.places
