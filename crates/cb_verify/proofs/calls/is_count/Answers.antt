use Rattle.std.proofs.Common.{◌≡◌, ◌∙◌, ap, arith, ◌≤◌, length}
use Rattle.cb_verify.specs.Types.{type_of, words}
use Rattle.cb_verify.proofs.MemberWords.{one_left, too_few, words_at}
use Rattle.cb_verify.proofs.calls.is_count.Goals as goal

pub returns-then-words-left : goal.returns-then-words-left
returns-then-words-left c =
    too_few c.args.member.now.takes c.args.count c.loop-place.left c.loop-place.place c.words-words.result c.takes.result c.takes.ensures
    (c.words-words.ensures.words ∙ ap words c.of_basic.ensures) c.loop-place.invariant (omega (arith, c.if-words-left.true))

pub loop-place-preserved : goal.loop-place-preserved
loop-place-preserved c =
    omega (arith, c.loop-place.invariant, words_at c.args.member.now.takes c.loop-place.place c.takes.result c.takes.ensures, own, c.if-words-left.false)
  where
    own : c.words-words.result ≡ words (type_of c.takes.result)
    own = c.words-words.ensures.words ∙ ap words c.of_basic.ensures

pub returns : goal.returns
returns c =
    one_left c.args.member.now.takes c.args.count c.loop-place.left c.loop-place.place done c.loop-place.invariant
  where
    done : length c.args.member.now.takes ≤ c.loop-place.place
    done = omega (arith, c.loop-place-test.false, c.count-place-end.ensures)
