use Rattle.std.proofs.Common.{◌∙◌, ap, ◌+◌, ◌/◌}
use Rattle.cb_dag.specs.Marks.{unpacked}
use Rattle.cb_dag.proofs.Unpacked.{unpacked_nothing}
use Rattle.cb_dag.proofs.bits.Bits.make.Goals as goal

pub returns : goal.returns
returns c = ap (unpacked c.args.len) c.in_ok-words.ensures ∙ unpacked_nothing c.args.len (c.args.len / 64 + 1)
