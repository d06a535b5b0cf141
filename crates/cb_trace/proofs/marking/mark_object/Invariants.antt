use Rattle.std.proofs.Common.{◌≡◌, ◌+◌, ℕ}
use Rattle.cb_trace.specs.Marking.{Given, Looks, ObjectTo}
use Rattle.cb_trace.proofs.marking.mark_object.Given as goal

abbrev pub invariant-loop-i : goal.invariant-loop-i
invariant-loop-i g l = record {
  so_far : (given : Given) → (looked : ℕ) → Looks given l.fn.words l.shapes l.fn.grey l.set l.at looked → ObjectTo given l.fn.words l.words l.grey l.set l.at looked l.i;
  counted : l.steps ≡ l.fn.steps + 3 + l.i;
}
