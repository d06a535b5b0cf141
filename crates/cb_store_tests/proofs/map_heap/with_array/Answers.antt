use Rattle.std.proofs.Common.{ap}
use Rattle.cb_store_tests.proofs.Empty.{all_known, closed_empty}
use Rattle.cb_store_tests.proofs.map_heap.with_array.Goals as goal

pub make_room-requires : goal.make_room-requires
make_room-requires c =
    record { closed = closed_empty c.in_ok-heap.heap.objects c.in_ok-roots.roots.roots (ap (λ held. held.objects) c.in_ok-heap.ensures) c.in_ok-roots.ensures; sites = all_known c.add.new.self }
