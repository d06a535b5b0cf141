use Rattle.std.proofs.Common.{◌≡◌, drop}
use Rattle.cb_frames.specs.Limited.{with_roots}
use Rattle.cb_frames.specs.Tops.{top_stack}
use Rattle.cb_act.specs.Effects.{stacked}
use Rattle.cb_act.proofs.operands.give_for.Given as goal

abbrev pub invariant-loop : goal.invariant-loop
invariant-loop l = record {
  left : l.roots ≡ with_roots l.fn.roots (stacked l.fn.roots.roots (drop l.counter (top_stack l.fn.roots.roots)));
}
