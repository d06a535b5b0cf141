use Rattle.std.proofs.Common.{◌≡◌, ◌+◌}
use Rattle.cb_trace.specs.Marking.{Begins, Given, RootsTo}
use Rattle.cb_trace.proofs.marking.mark_roots.Given as goal

abbrev pub invariant-loop-i : goal.invariant-loop-i
invariant-loop-i g l = record {
  so_far : (given : Given) → Begins given l.fn.words l.fn.grey l.roots.roots l.set → RootsTo given l.words l.grey l.set l.i;
  counted : l.steps ≡ l.fn.steps + l.i;
}
