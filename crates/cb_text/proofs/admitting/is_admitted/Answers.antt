use Rattle.std.proofs.Common.{◌∙◌, sym, arith}
use Rattle.std.proofs.lemmas.Bool.{false≢true}
use Rattle.std.proofs.lemmas.Bool.Decides.{nat_tests}
use Rattle.cb_text.proofs.Adding.{added, may_be_added}
use Rattle.cb_text.proofs.admitting.is_admitted.Goals as goal
use Rattle.cb_text.proofs.admitting.is_admitted.Goals.{then-from-places_of-le65535, else-from-places_of-le65535}

pub returns-then-fits : goal.returns-then-fits
returns-then-fits c =
    let pool = c.requires in
    elim c.if-from-places_of-le65535.branch [
      | then-from-places_of-le65535 w ↦
          let fits = w.fits.ensures.0 (sym w.value-is ∙ c.if-fits.true) in (
            λ is. added _ _ pool (record { room = omega (arith, c.from.ensures, c.places_of.ensures, w.if-from-places_of-le65535.true); has = fits.0; fits = fits.1; indexed = c.is_indexed_behind.ensures.0 is }),
            λ both. c.is_indexed_behind.ensures.1 (may_be_added _ _ pool both).indexed,
          )
      | else-from-places_of-le65535 w ↦ let tested = sym w.value-is ∙ c.if-fits.true in absurd (grind (arith, nat_tests))
    ]

pub returns-else-fits : goal.returns-else-fits
returns-else-fits c =
    let pool = c.requires in (
      λ is. absurd (false≢true (sym c.if-fits.false ∙ is)),
      λ both.
          let may = may_be_added _ _ pool both in
          elim c.if-from-places_of-le65535.branch [
            | then-from-places_of-le65535 w ↦ w.value-is ∙ w.fits.ensures.1 (may.has, may.fits)
            | else-from-places_of-le65535 w ↦ absurd (omega (arith, may.room, c.from.ensures, c.places_of.ensures, w.if-from-places_of-le65535.false))
          ],
    )
