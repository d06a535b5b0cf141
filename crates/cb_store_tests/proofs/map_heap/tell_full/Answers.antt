use Rattle.cb_store_tests.proofs.Empty.{all_known, closed_with}
use Rattle.cb_store_tests.proofs.map_heap.tell_full.Goals as goal

pub make_room-made-requires : goal.make_room-made-requires
make_room-made-requires c =
    record { closed = closed_with c.in_ok-heap.heap.objects c.in_ok-roots.roots.roots c.in_ok-heap.ensures c.in_ok-roots.ensures; sites = all_known c.add.new.self }
