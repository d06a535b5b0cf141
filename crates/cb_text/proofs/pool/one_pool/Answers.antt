use Rattle.cb_text.proofs.OnePool.{one_pool_front}
use Rattle.cb_text.proofs.pool.one_pool.Goals as goal

pub returns : goal.returns
returns c = one_pool_front
