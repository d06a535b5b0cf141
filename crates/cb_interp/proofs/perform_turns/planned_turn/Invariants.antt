use Rattle.cb_heap.specs.Reading.{read_roots}
use Rattle.cb_interp.proofs.perform_turns.planned_turn.Given as goal

abbrev pub ghost-room_for : goal.ghost-room_for
ghost-room_for g a = g.given.0

abbrev pub ghost-perform : goal.ghost-perform
ghost-perform g a = (read_roots (g.S.Store.storage a.store.now).index a.roots.now.roots, g.given.1)
