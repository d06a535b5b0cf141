use Rattle.std.proofs.Common.{◌∙◌, ap, sym, Some}
use Rattle.std.specs.Prelude.{option_and_then, option_map}
use Rattle.cb_heap.specs.Storage.{view_in}
use Rattle.cb_act.specs.Acting.{going_on, of_left}
use Rattle.cb_act.specs.Objects.{Goes, behind_store_reference}
use Rattle.cb_act.specs.Placing.{at_place}
use Rattle.cb_act.proofs.acting_objects.stores_reference.Goals as goal

pub store_reference-left-requires-clause-follows : goal.store_reference-left-requires-clause-follows
store_reference-left-requires-clause-follows g c = λ after goes.
    let view = view_in (g.S.Store.storage c.args.store.now) c.args.roots.now.roots in
    c.requires.follows (at_place after c.in-Some.next)
    (ap (going_on c.args.decoded.now) (ap (λ fits. behind_store_reference fits view) (sym c.fits_array-fit.ensures) ∙ goes)
    ∙ ap (λ next. option_and_then (λ pc. option_map (of_left pc) (Some (Goes after))) next) c.in-Some.is)
