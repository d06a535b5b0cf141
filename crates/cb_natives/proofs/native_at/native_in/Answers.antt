use Rattle.std.proofs.Common.{◌≡◌, arith, false, refl, sym}
use Rattle.std.proofs.lemmas.Bool.{ne_eqb}
use Rattle.cb_natives.proofs.Places.{is_listed, none_elsewhere}
use Rattle.cb_natives.proofs.native_at.native_in.Goals as goal

pub returns-in_default : goal.returns-in_default
returns-in_default c =
    let class = c.args.class in
    let other : is_listed class ≡ false =
    rw (
      ne_eqb class 0 (λ same. absurd (omega (arith, c.in_default, same))),
      ne_eqb class 8 (λ same. absurd (omega (arith, c.in_default, same))),
      ne_eqb class 9 (λ same. absurd (omega (arith, c.in_default, same))),
      ne_eqb class 10 (λ same. absurd (omega (arith, c.in_default, same))),
      ne_eqb class 11 (λ same. absurd (omega (arith, c.in_default, same))),
      ne_eqb class 12 (λ same. absurd (omega (arith, c.in_default, same))),
      ne_eqb class 13 (λ same. absurd (omega (arith, c.in_default, same))),
      ne_eqb class 15 (λ same. absurd (omega (arith, c.in_default, same))),
      ne_eqb class 16 (λ same. absurd (omega (arith, c.in_default, same))),
      ne_eqb class 17 (λ same. absurd (omega (arith, c.in_default, same))),
      ne_eqb class 18 (λ same. absurd (omega (arith, c.in_default, same))),
      ne_eqb class 19 (λ same. absurd (omega (arith, c.in_default, same))),
      ne_eqb class 20 (λ same. absurd (omega (arith, c.in_default, same))),
      ne_eqb class 22 (λ same. absurd (omega (arith, c.in_default, same))),
    ) refl in
    sym (none_elsewhere class c.args.place other)
