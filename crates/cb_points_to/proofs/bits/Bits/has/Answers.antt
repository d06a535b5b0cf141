use Rattle.std.proofs.Common.{◌∙◌, ap, arith}
use Rattle.cb_points_to.specs.Packed.{bit_of}
use Rattle.cb_points_to.proofs.Unpacked.{has_seen, length_seen}
use Rattle.cb_points_to.proofs.bits.Bits.has.Goals as goal

pub has_bit-requires : goal.has_bit-requires
has_bit-requires c = omega (arith, length_seen _ _ _ c.self.view_is, c.as_slice.ensures.len, c.self.invariant)

pub returns : goal.returns
returns c =
    has_seen c.self.inside.len c.args.place c.self.inside.words.items c.args.self.now c.has_bit.result c.self.view_is c.requires
    (c.has_bit.ensures ∙ ap (λ words. bit_of words c.args.place) c.as_slice.ensures.value)
