use Rattle.cb_heap.specs.Storage.{view_in}
use Rattle.std.proofs.Common.{◌∙◌, ap, refl, sym, ◌∷◌, [], Some}
use Rattle.cb_shapes.specs.declared.sort.Sort.TheVariants as sorts
use Rattle.cb_act.specs.Classes.{cast_to}
use Rattle.cb_act.proofs.ClassLaws.{cast_kind, cast_null, cast_there, own_low}
use Rattle.cb_act.proofs.Taken.{stands}
use Rattle.cb_act.proofs.classes.cast.Goals as goal

pub reference_at-at-requires : goal.reference_at-at-requires
reference_at-at-requires g c = stands (g.S.Store.storage c.args.store.now).index c.args.roots.now.roots _ (sorts.Reference ∷ []) c.requires.there 0 sorts.Reference refl

pub returns-then-at-eq0 : goal.returns-then-at-eq0
returns-then-at-eq0 g c = cast_null c.args.program.now (g.S.Store.storage c.args.store.now).index (g.S.Store.storage c.args.store.now).kept c.args.roots.now.roots c.args.kind c.reference_at-at.result c.reference_at-at.ensures c.if-at-eq0.true

pub kind-requires : goal.kind-requires
kind-requires g c = cast_there c.args.program.now (g.S.Store.storage c.args.store.now).index (g.S.Store.storage c.args.store.now).kept c.args.roots.now.roots c.args.kind c.reference_at-at.result c.reference_at-at.ensures c.if-at-eq0.false c.requires.there

pub instance-requires-clause-kind : goal.instance-requires-clause-kind
instance-requires-clause-kind g c = own_low c.args.program.now (g.S.Store.storage c.args.store.now).index (g.S.Store.storage c.args.store.now).kept c.args.roots.now.roots c.reference_at-at.result c.kind.result c.reference_at-at.ensures c.kind.ensures c.requires.own

pub returns-then-instance : goal.returns-then-instance
returns-then-instance g c =
    cast_kind c.args.program.now (g.S.Store.storage c.args.store.now).index (g.S.Store.storage c.args.store.now).kept c.args.roots.now.roots c.args.kind c.kind.result c.reference_at-at.result c.reference_at-at.ensures c.if-at-eq0.false c.kind.ensures
    ∙ ap (λ is. Some (cast_to (view_in (g.S.Store.storage c.args.store.now) c.args.roots.now.roots) is)) (sym c.instance.ensures ∙ c.if-instance.true)

pub returns-else-instance : goal.returns-else-instance
returns-else-instance g c =
    cast_kind c.args.program.now (g.S.Store.storage c.args.store.now).index (g.S.Store.storage c.args.store.now).kept c.args.roots.now.roots c.args.kind c.kind.result c.reference_at-at.result c.reference_at-at.ensures c.if-at-eq0.false c.kind.ensures
    ∙ ap (λ is. Some (cast_to (view_in (g.S.Store.storage c.args.store.now) c.args.roots.now.roots) is)) (sym c.instance.ensures ∙ c.if-instance.false)
