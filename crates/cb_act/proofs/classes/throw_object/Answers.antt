use Rattle.cb_heap.specs.Storage.{view_in}
use Rattle.std.proofs.Common.{◌∙◌, ap, refl, sym, ◌∷◌, [], Some}
use Rattle.cb_shapes.specs.declared.sort.Sort.TheVariants as sorts
use Rattle.cb_act.specs.Objects.{Goes}
use Rattle.cb_act.proofs.ClassLaws.{pending_so, throw_so}
use Rattle.cb_act.proofs.FieldLaws.{null_so}
use Rattle.cb_act.proofs.Taken.{stands}
use Rattle.cb_act.proofs.classes.throw_object.Goals as goal

pub reference_at-at-requires : goal.reference_at-at-requires
reference_at-at-requires g c = stands (g.S.Store.storage c.args.store.now).index c.args.roots.now.roots _ (sorts.Reference ∷ []) c.requires.there 0 sorts.Reference refl

pub returns-then-at-eq0-clause-behind : goal.returns-then-at-eq0-clause-behind
returns-then-at-eq0-clause-behind g c =
    throw_so (g.S.Store.storage c.args.store.now).index (g.S.Store.storage c.args.store.now).kept c.args.roots.now.roots c.reference_at-at.result c.reference_at-at.ensures ∙ null_so (g.S.Store.storage c.args.store.now).index c.reference_at-at.result _ c.if-at-eq0.true

pub returns-clause-behind : goal.returns-clause-behind
returns-clause-behind g c =
    pending_so (g.S.Store.storage c.args.store.now).index (g.S.Store.storage c.args.store.now).kept c.args.roots.now.roots c.reference_at-at.result c.reference_at-at.ensures c.if-at-eq0.false c.requires.there
    ∙ ap (λ roots. Some (Goes (view_in (g.S.Store.storage c.args.store.now) roots.roots))) (sym c.set_pending.ensures)
