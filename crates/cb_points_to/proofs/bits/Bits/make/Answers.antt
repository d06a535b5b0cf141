use Rattle.std.proofs.Common.{◌∙◌, ap, ◌+◌, ◌/◌}
use Rattle.cb_points_to.specs.Packed.{unpacked}
use Rattle.cb_points_to.proofs.Unpacked.{unpacked_nothing}
use Rattle.cb_points_to.proofs.bits.Bits.make.Goals as goal

pub returns : goal.returns
returns c = ap (unpacked c.args.len) c.in_ok-words.ensures ∙ unpacked_nothing c.args.len (c.args.len / 64 + 1)
