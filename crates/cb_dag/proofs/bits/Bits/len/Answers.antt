use Rattle.std.proofs.Common.{sym}
use Rattle.cb_dag.proofs.Unpacked.{length_seen}
use Rattle.cb_dag.proofs.bits.Bits.len.Goals as goal

pub returns : goal.returns
returns c = sym (length_seen _ _ _ c.self.view_is)
