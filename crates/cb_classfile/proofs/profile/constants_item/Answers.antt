use Rattle.cb_classfile.specs.Profile.{constant_item}
use Rattle.cb_classfile.proofs.First.{first_at_index, none_at_index}
use Rattle.cb_classfile.proofs.profile.constants_item.Goals as goal

pub returns-then-is_some : goal.returns-then-is_some
returns-then-is_some c =
    first_at_index (constant_item c.args.constants.now) c.args.constants.now c.loop-index.index _ c.loop-index.invariant c.item_at-item.ensures c.if-is_some.ensures

pub loop-index-preserved : goal.loop-index-preserved
loop-index-preserved c =
    none_at_index (constant_item c.args.constants.now) c.args.constants.now c.loop-index.index _ c.loop-index.invariant c.item_at-item.ensures c.if-is_some.ensures
