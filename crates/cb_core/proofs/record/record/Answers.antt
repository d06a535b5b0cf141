use Rattle.std.proofs.Common.{subst}
use Rattle.cb_text.specs.Pool.{IsPool}
use Rattle.cb_core.specs.Rowed.{class_row}
use Rattle.cb_core.proofs.Bodied.{built}
use Rattle.cb_core.proofs.Making.{class_record}
use Rattle.cb_core.proofs.record.record.Goals as goal

pub returns-clause-built : goal.returns-clause-built
returns-clause-built c =
    built (class_row c.args.row.now) _ _ _ _ _ _ _ _ _ _ _ _ _ _ (subst IsPool c.pool-5.view_is c.pool-5.invariant)
    c.in_ok-pool.ensures.built c.in_ok-this_class.ensures.put c.in_ok-super_class.ensures.put c.in_ok-interfaces.ensures.put c.in_ok-fields.ensures.put c.in_ok-methods.ensures.put

pub returns-clause-made : goal.returns-clause-made
returns-clause-made c =
    class_record (class_row c.args.row.now) _ _ _ _ _ _ _ _ _ _ _ c.in_ok-pool.ensures.made c.in_ok-this_class.ensures.made c.in_ok-super_class.ensures.made c.in_ok-interfaces.ensures.made c.in_ok-fields.ensures.made c.in_ok-methods.ensures.made
