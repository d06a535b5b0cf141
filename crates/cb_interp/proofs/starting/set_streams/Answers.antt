use Rattle.std.proofs.Common.{◌∙◌, ap, ap₂, ◌+◌, length}
use Rattle.cb_machine.specs.Library.{system}
use Rattle.cb_plain.specs.declared.value.Value.TheVariants.{Ref}
use Rattle.cb_interp.proofs.TurnsStartingRoots.{passes_stream, sets_stream, stream_count, streams_from}
use Rattle.cb_interp.proofs.starting.set_streams.Goals as goal
use Rattle.cb_interp.proofs.starting.set_streams.Goals.{then-owner-eq-SYSTEM, else-owner-eq-SYSTEM}

pub loop-slot-preserved : goal.loop-slot-preserved
loop-slot-preserved c =
    let program = c.args.program.now in
    let count = c.static_count-count.result in
    let slot = c.loop-slot.slot in
    let held = c.loop-slot.roots.roots in
    let out = c.loop-slot.next in
    let input = c.args.input in
    let before = c.loop-slot.invariant in
    elim c.if-owner-eq-SYSTEM.branch [
      | then-owner-eq-SYSTEM w ↦ record {
        set = ap₂ (λ roots next. streams_from program system count roots.roots next input (slot + 1)) (w.roots-is ∙ w.set_static.ensures) w.next-is
            ∙ sets_stream program system count held out input slot c.static_class-owner.result c.loop-slot-test.true c.static_class-owner.ensures.declares
            w.if-owner-eq-SYSTEM.true
            ∙ before.set;
        statics = ap (λ roots. length roots.roots.statics) (w.roots-is ∙ w.set_static.ensures) ∙ stream_count held slot (Ref out) ∙ before.statics;
        limit = ap (λ roots. roots.limit) (w.roots-is ∙ w.set_static.ensures) ∙ before.limit;
      }
      | else-owner-eq-SYSTEM w ↦ record {
        set = ap₂ (λ roots next. streams_from program system count roots.roots next input (slot + 1)) w.roots-is w.next-is
            ∙ passes_stream program system count held out input slot c.static_class-owner.result c.loop-slot-test.true c.static_class-owner.ensures.declares
            w.if-owner-eq-SYSTEM.false
            ∙ before.set;
        statics = ap (λ roots. length roots.roots.statics) w.roots-is ∙ before.statics;
        limit = ap (λ roots. roots.limit) w.roots-is ∙ before.limit;
      }
    ]
