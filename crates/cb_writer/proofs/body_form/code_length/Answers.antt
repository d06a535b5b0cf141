use Rattle.std.proofs.Common.{sym, ◌∙◌, arith}
use Rattle.std.proofs.lemmas.Bool.{false≢true}
use Rattle.cb_writer.proofs.Bodies.{code_has, code_of}
use Rattle.cb_writer.proofs.body_form.code_length.Goals as goal

pub returns-then-size-eq0-clause-none : goal.returns-then-size-eq0-clause-none
returns-then-size-eq0-clause-none c = λ none has. let parts = code_of c.in_ok-size.ensures.fits.1 has in absurd (omega (arith, parts.0))

pub returns-then-size-gt-MAX_CODE_LENGTH-clause-none : goal.returns-then-size-gt-MAX_CODE_LENGTH-clause-none
returns-then-size-gt-MAX_CODE_LENGTH-clause-none c = λ none has. let parts = code_of c.in_ok-size.ensures.fits.1 has in absurd (omega (arith, parts.1))

pub returns-then-have_constants-clause-fits : goal.returns-then-have_constants-clause-fits
returns-then-have_constants-clause-fits c =
    let told = rw (c.constants.ensures, c.as_slice.ensures) at c.have_constants.ensures in
    let size = c.in_ok-size.ensures.fits in
    (code_has size.0 size.1 (omega arith) (omega arith) (told.0 c.if-have_constants.true), size.1)

pub returns-else-have_constants-clause-none : goal.returns-else-have_constants-clause-none
returns-else-have_constants-clause-none c = λ none has.
    let told = rw (c.constants.ensures, c.as_slice.ensures) at c.have_constants.ensures in
    let parts = code_of c.in_ok-size.ensures.fits.1 has in
    absurd (false≢true (sym c.if-have_constants.false ∙ told.1 parts.2))
