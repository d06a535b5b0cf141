use Rattle.std.proofs.Common.{◌∷◌, ◌∙◌, [], ap, ap₂, refl, sym, Some}
use Rattle.std.specs.Prelude.{option_and_then, option_map}
use Rattle.cb_heap.specs.Storage.{view_in}
use Rattle.cb_machine.specs.Values.{sort_of_basic}
use Rattle.cb_heap.specs.Reading.{seen}
use Rattle.cb_shapes.specs.declared.sort.Sort.TheVariants as sorts
use Rattle.cb_act.specs.Acting.{basic_on, going_on, of_left}
use Rattle.cb_act.specs.Objects.{Goes, behind_store_element}
use Rattle.cb_act.specs.Placing.{at_place}
use Rattle.cb_act.proofs.Going.{going_there}
use Rattle.cb_act.proofs.Taken.{stands}
use Rattle.cb_act.proofs.acting_objects.stores.Goals as goal

pub element_on-basic-requires-clause-there : goal.element_on-basic-requires-clause-there
element_on-basic-requires-clause-there g c =
    let index = (g.S.Store.storage c.args.store.now).index in
    let view = seen index (g.S.Store.storage c.args.store.now).kept c.args.roots.now.roots in
    stands index c.args.roots.now.roots _ (c.args.sort ∷ sorts.Int ∷ sorts.Reference ∷ [])
    (going_there c.args.decoded.now (behind_store_element c.args.sort (basic_on c.args.program.now c.args.sort view 2) view) c.requires.there) 2 sorts.Reference refl

pub store_element-left-requires-clause-follows : goal.store_element-left-requires-clause-follows
store_element-left-requires-clause-follows g c = λ after goes.
    let view = view_in (g.S.Store.storage c.args.store.now) c.args.roots.now.roots in
    let sort = sym c.requires.suits.sorted ∙ ap sort_of_basic (sym c.element_on-basic.ensures) in
    c.requires.follows (at_place after c.in-Some.next)
    (ap (going_on c.args.decoded.now) (ap₂ (λ sort basic. behind_store_element sort basic view) sort (sym c.element_on-basic.ensures) ∙ goes)
    ∙ ap (λ next. option_and_then (λ pc. option_map (of_left pc) (Some (Goes after))) next) c.in-Some.is)
