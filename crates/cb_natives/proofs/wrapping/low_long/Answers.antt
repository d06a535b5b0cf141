use Rattle.std.proofs.Common.{◌∙◌, ap, pos, unsigned_abs, w64}
use Rattle.std.specs.Int.{int_rem_euclid, int_wrap, cast_signed, w128}
use Rattle.std.proofs.lemmas.Int.{to_z-of_z}
use Rattle.cb_natives.proofs.wrapping.low_long.Goals as goal

pub returns : goal.returns
unfolding int_wrap
returns c =
    to_z-of_z w64 c.cast_signed.result (record { sfits = c.cast_signed.type_inv }) ∙ c.cast_signed.ensures
    ∙ ap (λ low. cast_signed w64 (unsigned_abs low))
    (to_z-of_z w128 c.rem_euclid-low.result (record { sfits = c.rem_euclid-low.type_inv }) ∙ c.rem_euclid-low.ensures.value ∙ ap (λ a. int_rem_euclid a (pos 18446744073709551616)) (to_z-of_z w128 c.args.number c.ranges.number))
