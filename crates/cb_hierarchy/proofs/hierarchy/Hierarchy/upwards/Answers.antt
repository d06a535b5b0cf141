use Rattle.std.proofs.Common.{◌<◌, length, subst, sym}
use Rattle.std.proofs.lemmas.Option.{slice_get_within}
use Rattle.cb_hierarchy.proofs.hierarchy.Hierarchy.upwards.Goals as goal

pub get-requires : goal.get-requires
get-requires c =
    slice_get_within c.self.inside.upward_lists c.args.number _ (c.self.invariant.up c.args.number (subst (λ (classes : _). c.args.number < length classes) (sym c.self.view_is) c.requires))
