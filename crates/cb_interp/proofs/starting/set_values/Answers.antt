use Rattle.std.proofs.Common.{◌∙◌, ap, ◌+◌, length}
use Rattle.cb_interp.proofs.TurnsStartingRoots.{first_count, first_from, sets_first}
use Rattle.cb_interp.proofs.starting.set_values.Goals as goal

pub loop-slot-preserved : goal.loop-slot-preserved
loop-slot-preserved c =
    let program = c.args.program.now in
    let count = c.static_count-count.result in
    let slot = c.loop-slot.slot in
    let held = c.loop-slot.roots.roots in
    let before = c.loop-slot.invariant in
    record {
      set = ap (λ roots. first_from program count roots.roots (slot + 1)) c.set_value.ensures ∙ sets_first program count held slot c.loop-slot-test.true ∙ before.set;
      statics = ap (λ roots. length roots.roots.statics) c.set_value.ensures ∙ first_count program held slot ∙ before.statics;
      limit = ap (λ roots. roots.limit) c.set_value.ensures ∙ before.limit;
    }
