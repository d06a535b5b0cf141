use Rattle.std.proofs.Common.{◌∙◌, ap, w64}
use Rattle.std.proofs.lemmas.Int.{to_z-of_z}
use Rattle.std.specs.Int.{cast_signed, cast_unsigned}
use Rattle.cb_natives.proofs.Units.{word_signed}
use Rattle.cb_natives.proofs.low_bits.word_of.Goals as goal

pub returns : goal.returns
returns c =
    word_signed w64 c.cast_unsigned.result c.cast_unsigned.type_inv ∙ ap (cast_signed w64) c.cast_unsigned.ensures
    ∙ ap (λ z. cast_signed w64 (cast_unsigned w64 z)) (to_z-of_z w64 c.args.number c.ranges.number) ∙ to_z-of_z w64 c.args.number c.ranges.number
