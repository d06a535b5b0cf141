use Rattle.std.proofs.Common.{◌∙◌, ap, ◌+◌, length}
use Rattle.cb_interp.proofs.TurnsStartingRoots.{ready_count, ready_from, sets_ready}
use Rattle.cb_interp.proofs.starting.ready_classes.Goals as goal

pub loop-class-preserved : goal.loop-class-preserved
loop-class-preserved c =
    let count = c.classes_of-count.result in
    let class = c.loop-class.class in
    let held = c.loop-class.roots.roots in
    let before = c.loop-class.invariant in
    record {
      set = ap (λ roots. ready_from count roots.roots (class + 1)) c.ready_class.ensures ∙ sets_ready count held class c.loop-class-test.true ∙ before.set;
      classes = ap (λ roots. length roots.roots.classes) c.ready_class.ensures ∙ ready_count held class ∙ before.classes;
      limit = ap (λ roots. roots.limit) c.ready_class.ensures ∙ before.limit;
    }
