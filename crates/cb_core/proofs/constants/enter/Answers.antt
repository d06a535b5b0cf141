use Rattle.cb_core.proofs.Entering.{entered, is_pool}
use Rattle.cb_core.proofs.Named.{ok_then}
use Rattle.cb_core.proofs.Making.{constant_grown}
use Rattle.cb_core.proofs.constants.enter.Goals as goal

pub push-requires : goal.push-requires
push-requires c = is_pool c.args.pool.now c.args.constant c.constants.ensures.pool c.requires

pub returns-clause-put : goal.returns-clause-put
returns-clause-put c = entered _ _ _ _ c.requires c.push.ensures.ok

pub returns-clause-made : goal.returns-clause-made
returns-clause-made c = constant_grown _ _ _ c.push.result c.requires.alone c.push.ensures.ok
