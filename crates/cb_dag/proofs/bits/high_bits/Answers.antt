use Rattle.std.proofs.Common.{◌∙◌, ap, arith, ◌^◌, ◌-◌, min, bit_and}
use Rattle.std.specs.Int.{bit_at}
use Rattle.std.proofs.lemmas.Nat.Bits.{bit_at-lt, bit_at_and, bit_at_mask_below, bit_at_mask_inside, ones_shl}
use Rattle.cb_dag.proofs.bits.high_bits.Goals as goal

pub returns-clause-low : goal.returns-clause-low
returns-clause-low c = λ bit below.
    ap (λ mask. bit_at (bit_and c.args.word mask) bit) (ones_shl 64 c.args.at (omega arith))
    ∙ bit_at_and c.args.word (2 ^ 64 - 2 ^ c.args.at) bit
    ∙ ap (min (bit_at c.args.word bit)) (bit_at_mask_below c.args.at 64 bit below) ∙ omega arith

pub returns-clause-high : goal.returns-clause-high
returns-clause-high c = λ bit from within.
    ap (λ mask. bit_at (bit_and c.args.word mask) bit) (ones_shl 64 c.args.at (omega arith))
    ∙ bit_at_and c.args.word (2 ^ 64 - 2 ^ c.args.at) bit
    ∙ ap (min (bit_at c.args.word bit)) (bit_at_mask_inside c.args.at 64 bit from within) ∙ omega (arith, bit_at-lt c.args.word bit)
