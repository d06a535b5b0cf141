use Rattle.cb_link.specs.Making.{field_kinds, method_kinds}
use Rattle.cb_link.proofs.KindedParts.{then_items}
use Rattle.cb_link.proofs.named_kinds.enter_kinds_of.Goals as goal

pub returns : goal.returns
returns c =
    let class = c.args.class.now in
    then_items (field_kinds class.pool) (method_kinds class.pool) c.as_slice.result.now class.fields c.as_slice-2.result.now class.methods
    c.args.kinds.now c.enter_each.new.kinds c.enter_each-2.new.kinds c.as_slice.ensures c.as_slice-2.ensures c.in_ok-enter_each.ensures c.in_ok-enter_each-2.ensures
