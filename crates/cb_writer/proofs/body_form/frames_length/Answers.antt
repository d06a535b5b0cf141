use Rattle.std.proofs.Common.{sym, ◌∙◌, arith}
use Rattle.std.proofs.lemmas.Bool.{false≢true}
use Rattle.cb_writer.proofs.Bodies.{frames_have, frames_long, no_frames, of_frames}
use Rattle.cb_writer.proofs.Once.{may_stand, named_so}
use Rattle.cb_writer.proofs.Spelling.{empty, filled}
use Rattle.cb_writer.proofs.body_form.frames_length.Goals as goal

pub returns-then-is_empty-clause-fits : goal.returns-then-is_empty-clause-fits
returns-then-is_empty-clause-fits c = let both = no_frames (empty c.args.frames.now c.if-is_empty.ensures) in (both.0, both.1, omega arith)

pub returns-then-not-has-clause-none : goal.returns-then-not-has-clause-none
returns-then-not-has-clause-none c = λ none has.
    let parts = of_frames c.args.frames.now (filled c.args.frames.now c.if-is_empty.ensures) has in
    absurd (false≢true (sym c.if-not-has.true ∙ c.has.ensures.1 (named_so parts.1)))

pub returns-then-size-lt-TOO_LONG-clause-fits : goal.returns-then-size-lt-TOO_LONG-clause-fits
returns-then-size-lt-TOO_LONG-clause-fits c =
    let frames = c.args.frames.now in
    let some = filled frames c.if-is_empty.ensures in
    let size = c.frames_size-size.ensures in (
      frames_have frames some (c.is_table.ensures.0 c.if-not-is_table.false) (may_stand (c.has.ensures.0 c.if-not-has.false) (omega (arith, size))),
      omega (arith, size, frames_long c.args.names.now frames some),
      omega arith,
    )

pub returns-else-size-lt-TOO_LONG-clause-none : goal.returns-else-size-lt-TOO_LONG-clause-none
returns-else-size-lt-TOO_LONG-clause-none c = λ none has.
    let parts = of_frames c.args.frames.now (filled c.args.frames.now c.if-is_empty.ensures) has in
    absurd (omega (arith, c.frames_size-size.ensures, parts.1.short))
