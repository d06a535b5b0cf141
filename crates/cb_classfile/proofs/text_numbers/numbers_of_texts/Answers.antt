use Rattle.std.proofs.Common.{◌<◌, length, arith}
use Rattle.cb_classfile.proofs.Numbering.{numbered_no_text, numbered_text, numbers_tell}
use Rattle.cb_classfile.proofs.text_numbers.numbers_of_texts.Goals as goal
use Rattle.cb_classfile.proofs.text_numbers.numbers_of_texts.Goals.{in-Some+in_ok-number-in-Some, in-None}

pub loop-index-preserved : goal.loop-index-preserved
loop-index-preserved c = rw c.in_ok-push.ensures.items (elim c.match-text.branch [
  | in-Some+in_ok-number-in-Some w ↦ rw (w.number-is, w.first-is) (numbered_text _ _ _ _ _ _ _ c.loop-index.invariant w.in-Some.ensures record { number_is = w.in_ok-number-in-Some.ensures.number; others = w.in_ok-number-in-Some.ensures.others })
  | in-None w ↦ rw (w.number-is, w.first-is) (numbered_no_text _ _ _ _ c.loop-index.invariant w.in-None.ensures)
])

pub returns : goal.returns
returns c =
    let all : length c.args.constants.now < c.loop-index.index = omega (arith, c.len-index-end.ensures) in
    numbers_tell _ _ _ _ c.loop-index.invariant all
