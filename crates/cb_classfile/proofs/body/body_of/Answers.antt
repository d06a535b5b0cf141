use Rattle.std.proofs.Common.{sym, ◌∙◌}
use Rattle.std.proofs.lemmas.Bool.{false≢true}
use Rattle.cb_insn.proofs.Laws.{places_rise}
use Rattle.cb_classfile.proofs.BodyParts.{head_of, tail_of, body_found}
use Rattle.cb_classfile.proofs.Failing.{handed}
use Rattle.cb_classfile.proofs.Sequence.{found_whole, whole_by_first, whole_by_second}
use Rattle.cb_classfile.proofs.body.body_of.Goals as goal

pub returns-in_err-max_stack : goal.returns-in_err-max_stack
returns-in_err-max_stack c = handed _ _ _ _ c.from_residual.ensures (λ body spelled. whole_by_first c.in_err-max_stack.ensures _ spelled.spelled)

pub returns-in_err-bytes : goal.returns-in_err-bytes
returns-in_err-bytes c = handed _ _ _ _ c.from_residual-in_err-bytes.ensures (λ body spelled. whole_by_second c.in_ok-max_stack.ensures (whole_by_first c.in_err-bytes.ensures) _ spelled.spelled)

pub returns-in_err-code : goal.returns-in_err-code
returns-in_err-code c = handed _ _ _ _ c.from_residual-in_err-code.ensures (λ body spelled.
    c.in_err-code.ensures body.code (tail_of (head_of c.in_ok-max_stack.ensures c.in_ok-bytes.ensures) spelled).instructions)

pub returns-in_err-handlers : goal.returns-in_err-handlers
returns-in_err-handlers c = handed _ _ _ _ c.from_residual-in_err-handlers.ensures (λ body spelled.
    whole_by_first c.in_err-handlers.ensures _ (tail_of (head_of c.in_ok-max_stack.ensures c.in_ok-bytes.ensures) spelled).tables)

pub are_placed-requires : goal.are_placed-requires
are_placed-requires c = places_rise _ _ c.in_ok-code.ensures.found.spelled

pub returns-then-not-are_placed : goal.returns-then-not-are_placed
returns-then-not-are_placed c = λ body spelled.
    let tail = tail_of (head_of c.in_ok-max_stack.ensures c.in_ok-bytes.ensures) spelled in
    let code = c.in_ok-code.ensures.only body.code tail.instructions in
    let handlers = c.in_ok-handlers.ensures.only body.handlers _ (tail.tables.first, tail.tables.here, tail.tables.spelled) in
    absurd (false≢true (sym c.if-not-are_placed.true ∙ c.are_placed.ensures.1 (rw (c.as_slice.ensures, code, handlers.0) tail.placed)))

pub returns-in_err-frames : goal.returns-in_err-frames
returns-in_err-frames c = handed _ _ _ _ c.from_residual-in_err-frames.ensures (λ body spelled.
    whole_by_second c.in_ok-handlers.ensures c.in_err-frames.ensures _ (tail_of (head_of c.in_ok-max_stack.ensures c.in_ok-bytes.ensures) spelled).tables)

pub returns : goal.returns
returns c =
    body_found (head_of c.in_ok-max_stack.ensures c.in_ok-bytes.ensures) (record {
      instructions = c.in_ok-code.ensures.found;
      placed = rw (← c.as_slice.ensures) (c.are_placed.ensures.0 c.if-not-are_placed.false);
      tables = found_whole c.in_ok-handlers.ensures.found c.in_ok-frames.ensures.found;
    })
