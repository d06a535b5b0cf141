use Rattle.std.proofs.Common.{◌∙◌, sym, ap, subst, refl, rules, List, map, Ok, Err}
use Rattle.std.proofs.lemmas.List.Sorted.{answers_always}
use Rattle.cb_points_to.specs.Inclusions.{slot_of}
use Rattle.cb_points_to.specs.Made.{Ascend}
use Rattle.cb_points_to.specs.declared.tables.Slot.{Slot}
use Rattle.cb_points_to.proofs.Located.{located}
use Rattle.cb_points_to.proofs.tables.find_slot.Goals as goal

pub returns-in-Ok : goal.returns-in-Ok
returns-in-Ok c =
    let ascend = subst (λ (xs : List Slot). Ascend (map (λ slot. slot.site) xs)) (sym c.as_slice-all.ensures) c.requires in
    let by_key = c.in-Ok.ensures.position (λ slot. slot.site) (answers_always _ _ _ (λ f a r g called. search rules)) in
    sym (ap (λ xs. slot_of xs c.args.site) (sym c.as_slice-all.ensures)
    ∙ located (λ slot. slot.site) (λ slot. slot.node) slot_of (λ site. refl) (λ x xs site. refl) c.as_slice-all.result.now c.args.site (Ok c.in-Ok.at) ascend c.in-Ok.ensures.bound by_key (record { site = 0; node = 0 }))

pub returns-in-Err : goal.returns-in-Err
returns-in-Err c =
    let ascend = subst (λ (xs : List Slot). Ascend (map (λ slot. slot.site) xs)) (sym c.as_slice-all.ensures) c.requires in
    let by_key = c.in-Err.ensures.position (λ slot. slot.site) (answers_always _ _ _ (λ f a r g called. search rules)) in
    sym (ap (λ xs. slot_of xs c.args.site) (sym c.as_slice-all.ensures)
    ∙ located (λ slot. slot.site) (λ slot. slot.node) slot_of (λ site. refl) (λ x xs site. refl) c.as_slice-all.result.now c.args.site (Err c.in-Err.field-0) ascend c.in-Err.ensures.bound by_key)
