use Rattle.cb_heap.proofs.Laws.{same_shapes, same_allows}
use Rattle.cb_heap.specs.Storage.{view_in}
use Rattle.std.proofs.Common.{◌∙◌, ap, ap₂, arith, refl, sym, subst, ◌+◌, Bool, ℕ}
use Rattle.std.proofs.lemmas.List.{length-map}
use Rattle.std.specs.List.{fold}
use Rattle.cb_frames.specs.Limited.{Limited}
use Rattle.cb_heap.specs.Follows.{Follows}
use Rattle.cb_heap.specs.Reading.{View, read_value, serial_of}
use Rattle.cb_machine.specs.Initialising.{own_statics}
use Rattle.cb_machine.specs.Plans.{Plan, leaving, made}
use Rattle.cb_interp.specs.Fit.{ShapesOf}
use Rattle.cb_interp.specs.TextStatics.{set_initial}
use Rattle.cb_act.specs.Turning.{machine_of, state_of}
use Rattle.cb_interp.proofs.TurnsTextOwn.{So, may_enter, may_own, owner_is, owner_not, placed_first, so_other, so_own}
use Rattle.cb_interp.proofs.TurnsTextPlaced.{placed_next}
use Rattle.cb_interp.proofs.TurnsTextSlots.{slots_from}
use Rattle.cb_interp.proofs.text_statics.place_own.Goals as goal
use Rattle.cb_interp.proofs.text_statics.place_own.Goals.{then-owner-class, else-owner-class}

pub loop-slot-init : goal.loop-slot-init
loop-slot-init g c = record {
  so =
      let fields = c.requires.1.1.1.1.1.0 in
      let texts = c.requires.1.1.1.1.1.1.0 in
      let same_fields = length-map c.args.roots.now.roots.statics (read_value (g.S.Store.storage c.args.store.now).index) in
      let same_texts = length-map c.args.roots.now.roots.tables.constants (serial_of (g.S.Store.storage c.args.store.now).index) in
      placed_first g.S.Store.rules c.args.program.now c.args.roots.now.limit c.args.class c.static_count-count.result (g.S.Store.storage c.args.store.now).facts g.outside
      (view_in (g.S.Store.storage c.args.store.now) c.args.roots.now.roots) (g.S.Store.storage c.args.store.now).granted c.static_count-count.ensures c.requires.1.1.1.1.0
      (omega (arith, fields, same_fields)) (omega (arith, texts, same_texts)) c.requires.1.1.1.1.1.1.1.0 c.requires.1.1.1.1.1.1.1.1;
  limit = refl;
  faults = refl;
  settings = refl;
}

pub set_one-requires-clause-low : goal.set_one-requires-clause-low
set_one-requires-clause-low g c = λ text named.
    let low = c.loop-slot-test.true in
    let count = c.static_count-count.ensures in
    (may_own c.args.program.now c.args.class c.loop-slot.slot text c.requires.1.0 (omega (arith, low, count))
    (owner_is c.args.program.now c.args.class c.loop-slot.slot c.static_class-owner.result c.static_class-owner.ensures.declares c.if-owner-class.true) named).0

pub set_one-requires-clause-may : goal.set_one-requires-clause-may
set_one-requires-clause-may g c = λ text named new.
    let low = c.loop-slot-test.true in
    let count = c.static_count-count.ensures in
    let own = owner_is c.args.program.now c.args.class c.loop-slot.slot c.static_class-owner.result c.static_class-owner.ensures.declares c.if-owner-class.true in
    let whole : Plan =
    fold (set_initial (machine_of c.args.program.now c.args.roots.now.limit))
    (leaving (state_of (view_in (g.S.Store.storage c.args.store.now) c.args.roots.now.roots) g.outside)) (own_statics c.args.program.now c.args.class) in
    let view : View = view_in (g.S.Store.storage c.loop-slot.store) c.loop-slot.roots.roots in
    may_enter g.S.Store.rules c.args.program.now c.args.roots.now.limit c.args.class c.static_count-count.result (g.S.Store.storage c.args.store.now).facts whole g.outside c.loop-slot.slot
    (g.S.Store.storage c.loop-slot.store).index (g.S.Store.storage c.loop-slot.store).kept c.loop-slot.roots.roots (g.S.Store.storage c.loop-slot.store).facts (g.S.Store.storage c.loop-slot.store).granted
    (so_own g.S.Store.rules c.args.program.now c.args.roots.now.limit c.args.class c.static_count-count.result (g.S.Store.storage c.args.store.now).facts whole g.outside c.loop-slot.slot view
    (g.S.Store.storage c.loop-slot.store).facts (g.S.Store.storage c.loop-slot.store).granted low own c.loop-slot.invariant.so)
    text named new
    (may_own c.args.program.now c.args.class c.loop-slot.slot text c.requires.1.0 (omega (arith, low, count)) own named).1
    (g.S.Store.storage c.loop-slot.store).settings.shapes (subst (ShapesOf c.args.program.now) (sym (same_shapes c.loop-slot.invariant.settings)) c.requires.1.1.0)
    (g.S.Store.storage c.loop-slot.store).settings.allows (subst (λ (allows : ℕ → ℕ → Bool). Follows allows (made whole).objects) (sym (same_allows c.loop-slot.invariant.settings)) c.requires.1.1.1.0)

pub loop-slot-preserved : goal.loop-slot-preserved
loop-slot-preserved g c =
    let low = c.loop-slot-test.true in
    let program = c.args.program.now in
    let limit = c.args.roots.now.limit in
    let count = c.static_count-count.result in
    let slot = c.loop-slot.slot in
    let first = (g.S.Store.storage c.args.store.now).facts in
    let whole : Plan =
    fold (set_initial (machine_of c.args.program.now c.args.roots.now.limit))
    (leaving (state_of (view_in (g.S.Store.storage c.args.store.now) c.args.roots.now.roots) g.outside)) (own_statics c.args.program.now c.args.class) in
    let view : View = view_in (g.S.Store.storage c.loop-slot.store) c.loop-slot.roots.roots in
    let after : View = view_in (g.S.Store.storage c.if-owner-class.store) c.if-owner-class.roots.roots in
    let facts = (g.S.Store.storage c.loop-slot.store).facts in
    let granted = (g.S.Store.storage c.loop-slot.store).granted in
    let before = c.loop-slot.invariant in
    elim c.if-owner-class.branch [
      | then-owner-class w ↦ record {
        so =
            let own = owner_is program c.args.class slot c.static_class-owner.result c.static_class-owner.ensures.declares w.if-owner-class.true in
            placed_next g.S.Store.rules (machine_of program limit) first whole g.outside slot (slots_from program c.args.class count (slot + 1)) view facts granted
            (so_own g.S.Store.rules program limit c.args.class count first whole g.outside slot view facts granted low own before.so)
            after (ap₂ (λ store (roots : Limited). view_in (g.S.Store.storage store) roots.roots) w.store-is w.roots-is ∙ w.set_one.ensures.set)
            (g.S.Store.storage c.if-owner-class.store).facts (ap (λ store. (g.S.Store.storage store).facts) w.store-is ∙ w.set_one.ensures.facts)
            (g.S.Store.storage c.if-owner-class.store).granted (ap (λ store. (g.S.Store.storage store).granted) w.store-is ∙ w.set_one.ensures.granted);
        limit = ap (λ (roots : Limited). roots.limit) w.roots-is ∙ w.set_one.ensures.limit ∙ before.limit;
        faults = ap (λ store. (g.S.Store.storage store).faults) w.store-is ∙ w.set_one.ensures.faults ∙ before.faults;
        settings = ap (λ store. (g.S.Store.storage store).settings) w.store-is ∙ w.set_one.ensures.settings ∙ before.settings;
      }
      | else-owner-class w ↦ record {
        so =
            let other = owner_not program c.args.class slot c.static_class-owner.result c.static_class-owner.ensures.declares w.if-owner-class.false in
            subst (λ store. So g.S.Store.rules program limit c.args.class count first whole g.outside (slot + 1)
            (view_in (g.S.Store.storage store) c.if-owner-class.roots.roots) (g.S.Store.storage store).facts (g.S.Store.storage store).granted) (sym w.store-is)
            (subst (λ (roots : Limited). So g.S.Store.rules program limit c.args.class count first whole g.outside (slot + 1)
            (view_in (g.S.Store.storage c.loop-slot.store) roots.roots) facts granted) (sym w.roots-is)
            (so_other g.S.Store.rules program limit c.args.class count first whole g.outside slot view facts granted low other before.so));
        limit = ap (λ (roots : Limited). roots.limit) w.roots-is ∙ before.limit;
        faults = ap (λ store. (g.S.Store.storage store).faults) w.store-is ∙ before.faults;
        settings = ap (λ store. (g.S.Store.storage store).settings) w.store-is ∙ before.settings;
      }
    ]
