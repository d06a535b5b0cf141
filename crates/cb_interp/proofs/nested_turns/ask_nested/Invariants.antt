use Rattle.std.proofs.Common.{◌≡◌, ◌≤◌, ◌+◌, ◌-◌, ◌^◌, [], length, min}
use Rattle.std.specs.List.{fold}
use Rattle.cb_plain.specs.Requests.{add_want}
use Rattle.cb_interp.specs.Nested.{count_of, grid_on, nested_wants, sizes_on}
use Rattle.cb_interp.proofs.nested_turns.ask_nested.Given as goal

abbrev pub invariant-loop-dimension : goal.invariant-loop-dimension
invariant-loop-dimension l = record {
  asked : l.request ≡ fold add_want [] (nested_wants (grid_on l.program l.roots.roots (l.last + 1)) l.dimension);
  counted : l.count ≡ min (count_of (sizes_on l.roots.roots (l.last + 1)) l.dimension) (2 ^ 64 - 1);
  short : length l.request ≤ l.dimension;
}
