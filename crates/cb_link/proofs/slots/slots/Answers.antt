use Rattle.std.proofs.Common.{◌≡◌, ◌∙◌, ap, subst, sym, map, Some}
use Rattle.std.specs.Prelude.{slice_get}
use Rattle.cb_link.specs.InnerCounts.{HasCounted, count_above}
use Rattle.cb_link.proofs.Slotted.{counted_more, counted_none}
use Rattle.cb_link.proofs.slots.slots.Goals as goal

pub loop-index-init : goal.loop-index-init
loop-index-init c =
    subst (HasCounted c.args.hierarchy.now c.args.fields.now 0 0 c.in_ok-objects.objects.items) (sym c.new-slots.ensures)
    (counted_none c.args.hierarchy.now c.args.fields.now c.args.layouts.now c.in_ok-objects.objects.items c.requires.layouts c.requires.parents
    (c.in_ok-objects.ensures ∙ ap (map (count_above c.args.layouts.now)) (c.as_slice.ensures ∙ c.classes.ensures)))

pub loop-index-preserved : goal.loop-index-preserved
loop-index-preserved c =
    let index = c.loop-index.index in
    let field = c.field.result.now in
    let is : slice_get c.args.fields.now index ≡ Some field = ap (λ place. slice_get c.args.fields.now place) (sym c.in_ok-number_of.ensures.number) ∙ c.field.ensures in
    counted_more c.args.hierarchy.now c.args.fields.now index field is c.loop-index.next.statics c.take.new.self.statics c.loop-index.next.objects.items c.take.new.self.objects.items
    c.loop-index.slots c.push.new.self c.in_ok-slot.slot (c.requires.declared index field is) c.loop-index.invariant c.in_ok-slot.ensures.slot c.in_ok-slot.ensures.statics
    c.in_ok-slot.ensures.objects c.in_ok-push.ensures.ok
