use Rattle.std.proofs.Common.{refl, ◌∷◌, []}
use Rattle.cb_shapes.specs.declared.sort.Sort.TheVariants as sorts
use Rattle.cb_act.proofs.ClassLaws.{instance_there, own_low}
use Rattle.cb_act.proofs.Taken.{stands}
use Rattle.cb_act.proofs.classes.instance.Goals as goal

pub reference_at-at-requires : goal.reference_at-at-requires
reference_at-at-requires g c = stands (g.S.Store.storage c.args.store.now).index c.args.roots.now.roots _ (sorts.Reference ∷ []) c.requires.there 0 sorts.Reference refl

pub kind-requires : goal.kind-requires
kind-requires g c = instance_there c.args.program.now (g.S.Store.storage c.args.store.now).index (g.S.Store.storage c.args.store.now).kept c.args.roots.now.roots c.args.kind c.reference_at-at.result c.reference_at-at.ensures c.if-at-ne0.true c.requires.there

pub instance-is-requires-clause-kind : goal.instance-is-requires-clause-kind
instance-is-requires-clause-kind g c = own_low c.args.program.now (g.S.Store.storage c.args.store.now).index (g.S.Store.storage c.args.store.now).kept c.args.roots.now.roots c.reference_at-at.result c.kind.result c.reference_at-at.ensures c.kind.ensures c.requires.own
