use Rattle.std.proofs.Common.{◌∙◌, arith, ap, sym, unsigned_abs, w32}
use Rattle.std.proofs.lemmas.Int.{ints, to_z-of_z}
use Rattle.std.specs.Int.{cast_signed}
use Rattle.cb_natives.proofs.Units.{word_signed}
use Rattle.cb_natives.proofs.wrapping.int_abs.Goals as goal

pub returns : goal.returns
returns c =
    to_z-of_z w32 c.wrapping_abs.result (record { sfits = c.wrapping_abs.type_inv }) ∙ c.wrapping_abs.ensures
    ∙ ap (λ number. cast_signed w32 (unsigned_abs number)) (to_z-of_z w32 c.args.number c.ranges.number)
    ∙ sym (word_signed w32 (unsigned_abs c.args.number) (let fits = c.ranges.number.sfits in omega (arith, ints)))
