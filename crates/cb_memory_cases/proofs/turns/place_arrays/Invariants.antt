use Rattle.std.proofs.Common.{◌≡◌, ◌+◌, ◌*◌, ◌≤◌, length, vec_capacity}
use Rattle.std.specs.List.{All}
use Rattle.cb_plain.specs.Requests.{words_at}
use Rattle.cb_plain.specs.State.{words_of}
use Rattle.cb_memory_cases.specs.Timed.{HasWords, array_kinds}
use Rattle.cb_memory_cases.proofs.turns.place_arrays.Given as goal

abbrev pub invariant-loop : goal.invariant-loop
invariant-loop g l = record {
  shapes : (g.S.Store.storage l.store).settings.shapes ≡ array_kinds;
  room : words_at (g.S.Store.storage l.store).granted 0 + l.counter * words_of l.size ≡ words_at (g.S.Store.storage l.initial.store).granted 0;
  serials : length (g.S.Store.storage l.store).kept ≡ length (g.S.Store.storage l.initial.store).kept + l.counter;
  few : length l.places.items ≡ l.counter;
  reserved : l.count ≤ vec_capacity l.places;
  words : All (HasWords (g.S.Store.storage l.store) l.mark l.size) l.places.items;
}
