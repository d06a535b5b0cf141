use Rattle.cb_load.proofs.NamingParts.{class_entered}
use Rattle.cb_load.proofs.names.enter_names_of.Goals as goal

pub returns : goal.returns
returns c =
    class_entered c.args.class.now c.as_slice.result.now c.as_slice-2.result.now c.as_slice-3.result.now
    c.args.entries.now c.enter_class.new.entries c.enter_each.new.entries c.enter_each-2.new.entries c.enter_each-3.new.entries
    c.as_slice.ensures c.as_slice-2.ensures c.as_slice-3.ensures
    c.in_ok-enter_class.ensures.entries c.in_ok-enter_each.ensures.entries c.in_ok-enter_each-2.ensures.entries c.in_ok-enter_each-3.ensures.entries
