use Rattle.std.proofs.Common.{arith}
use Rattle.std.proofs.lemmas.List.Elements.{Contains-get_or}
use Rattle.cb_hierarchy.proofs.overriding.overrides_some.Goals as goal

pub method-requires : goal.method-requires
method-requires c = c.requires _ (Contains-get_or c.args.others.now c.loop-other.other-index 0 (omega arith))
