use Rattle.std.proofs.Common.{◌∙◌, arith, ap, sym, unsigned_abs, w64}
use Rattle.std.proofs.lemmas.Int.{ints, to_z-of_z}
use Rattle.std.specs.Int.{cast_signed}
use Rattle.cb_natives.proofs.Units.{word_signed}
use Rattle.cb_natives.proofs.wrapping.long_abs.Goals as goal

pub returns : goal.returns
returns c =
    to_z-of_z w64 c.wrapping_abs.result (record { sfits = c.wrapping_abs.type_inv }) ∙ c.wrapping_abs.ensures
    ∙ ap (λ number. cast_signed w64 (unsigned_abs number)) (to_z-of_z w64 c.args.number c.ranges.number)
    ∙ sym (word_signed w64 (unsigned_abs c.args.number) (let fits = c.ranges.number.sfits in omega (arith, ints)))
