use Rattle.std.proofs.Common.{◌∙◌, ap, ◌+◌, length}
use Rattle.cb_unwind.proofs.OwnSlots.{left_from, passes_other, set_count, sets_own}
use Rattle.cb_unwind.proofs.beginning.set_own.Goals as goal
use Rattle.cb_unwind.proofs.beginning.set_own.Goals.{then-owner-class, else-owner-class}

pub loop-slot-preserved : goal.loop-slot-preserved
loop-slot-preserved c =
    let program = c.args.program.now in
    let count = c.static_count-count.result in
    let slot = c.loop-slot.slot in
    let held = c.loop-slot.roots.roots in
    let before = c.loop-slot.invariant in
    elim c.if-owner-class.branch [
      | then-owner-class w ↦ record {
        set = ap (λ roots. left_from program c.args.class count roots.roots (slot + 1)) (w.roots-is ∙ w.set_one.ensures)
            ∙ sets_own program c.args.class count held slot c.static_class-owner.result c.loop-slot-test.true c.static_class-owner.ensures.declares w.if-owner-class.true
            ∙ before.set;
        statics = ap (λ roots. length roots.roots.statics) (w.roots-is ∙ w.set_one.ensures) ∙ set_count program held slot ∙ before.statics;
        limit = ap (λ roots. roots.limit) (w.roots-is ∙ w.set_one.ensures) ∙ before.limit;
      }
      | else-owner-class w ↦ record {
        set = ap (λ roots. left_from program c.args.class count roots.roots (slot + 1)) w.roots-is
            ∙ passes_other program c.args.class count held slot c.static_class-owner.result c.loop-slot-test.true c.static_class-owner.ensures.declares w.if-owner-class.false
            ∙ before.set;
        statics = ap (λ roots. length roots.roots.statics) w.roots-is ∙ before.statics;
        limit = ap (λ roots. roots.limit) w.roots-is ∙ before.limit;
      }
    ]
