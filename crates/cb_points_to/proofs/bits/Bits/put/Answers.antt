use Rattle.std.proofs.Common.{◌∙◌, ap, arith, ◌/◌}
use Rattle.std.specs.Int.{bit_at}
use Rattle.std.proofs.lemmas.List.{get_or_read}
use Rattle.cb_points_to.proofs.Unpacked.{length_seen, unpacked-set}
use Rattle.cb_points_to.proofs.bits.Bits.put.Goals as goal

pub index-word-requires : goal.index-word-requires
index-word-requires c = omega (arith, length_seen _ _ _ c.self.view_is, c.self.invariant, c.self.inside.words.ok.0)

pub index_mut-requires : goal.index_mut-requires
index_mut-requires c = omega (arith, length_seen _ _ _ c.self.view_is, c.self.invariant, c.self.inside.words.ok.0)

pub returns : goal.returns
returns c =
    unpacked-set c.self.inside.words.items c.args.place c.with_bit.result (omega (arith, length_seen _ _ _ c.self.view_is, c.self.invariant)) c.with_bit.ensures.same
    (λ other small apart. c.with_bit.ensures.others other small apart ∙ ap (λ word. bit_at word other)
    (get_or_read c.self.inside.words.items (c.args.place / 64) c.index-word.result.now (omega (arith, length_seen _ _ _ c.self.view_is, c.self.invariant)) c.index-word.ensures 0))
    c.self.inside.len c.args.self.now c.self.view_is c.requires
