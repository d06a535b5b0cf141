use Rattle.std.proofs.Common.{ap}
use Rattle.cb_memory_cases.proofs.Empty.{closed_empty}
use Rattle.cb_memory_cases.proofs.stores.map_store.Goals as goal

pub make_room-requires-clause-closed : goal.make_room-requires-clause-closed
make_room-requires-clause-closed c =
    closed_empty c.make-store.result.objects c.in_ok-roots.roots.roots (ap (λ held. held.objects) c.make-store.ensures) c.in_ok-roots.ensures
