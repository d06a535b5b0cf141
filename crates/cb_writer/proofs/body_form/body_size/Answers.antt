use Rattle.std.proofs.Common.{length, sym, ◌∙◌, ap, arith}
use Rattle.std.proofs.lemmas.Bool.{false≢true}
use Rattle.cb_insn.proofs.Laws.{places_rise}
use Rattle.cb_insn.specs.Writing.{code_bytes}
use Rattle.cb_writer.proofs.Bodies.{body_has, body_long, of_body}
use Rattle.cb_writer.proofs.body_form.body_size.Goals as goal

pub are_placed-requires : goal.are_placed-requires
are_placed-requires c = places_rise c.args.body.now.code (code_bytes c.args.body.now.code) c.in_ok-code.ensures.fits.0.instructions.spelled

pub returns-then-are_placed-clause-fits : goal.returns-then-are_placed-clause-fits
returns-then-are_placed-clause-fits c =
    let code = c.in_ok-code.ensures.fits in
    let frames = rw c.as_slice.ensures at c.in_ok-frames.ensures.fits in
    let handlers = rw c.as_slice-handlers.ensures at (c.is_table.ensures.0 c.if-not-is_table.false) in
    let placed = rw (code.1, c.as_slice-handlers.ensures) at (c.are_placed.ensures.0 c.if-are_placed.true) in (
      body_has (omega arith) (omega arith) (record { code = code.0; handlers = handlers; placed = placed; frames = frames.0 }),
      omega (arith, body_long c.args.names.now c.args.body.now, code.1, frames.1, ap length c.as_slice-handlers.ensures),
    )

pub returns-else-are_placed-clause-none : goal.returns-else-are_placed-clause-none
returns-else-are_placed-clause-none c = λ none has.
    let placed = rw (c.in_ok-code.ensures.fits.1, c.as_slice-handlers.ensures) at c.are_placed.ensures in
    absurd (false≢true (sym c.if-are_placed.false ∙ placed.1 (of_body has).placed))
