use Rattle.std.proofs.Common.{arith, true}
use Rattle.cb_names.proofs.ClassNames.{behind_beyond, seen_none, seen_more, name_seen, no_name_seen, no_name_on, no_name_left}
use Rattle.cb_names.proofs.class_name.behind_class_name.Goals as goal
use Rattle.cb_names.proofs.class_name.behind_class_name.Goals.{then-unit-gt-BRACKET, else-unit-gt-BRACKET+else-unit-eq-SEMICOLON+in_ok-begun}

pub loop-index-init : goal.loop-index-init
loop-index-init c = λ back. seen_none back

pub returns-then-not-begun : goal.returns-then-not-begun
returns-then-not-begun c = λ name rest named.
    no_name_seen _ _ _ name rest c.loop-index.invariant c.loop-index-test.true c.if-unit-eq-SEMICOLON.true c.if-not-begun.true named

pub returns-then-unit-eq-SEMICOLON : goal.returns-then-unit-eq-SEMICOLON
returns-then-unit-eq-SEMICOLON c =
    name_seen c.args.text.now c.loop-index.begun c.loop-index.index c.loop-index.invariant c.loop-index-test.true c.if-unit-eq-SEMICOLON.true c.if-not-begun.false

pub returns-in_err-begun : goal.returns-in_err-begun
returns-in_err-begun c =
    rw c.from_residual.ensures (λ name rest named.
    no_name_on _ _ _ name rest c.loop-index.invariant c.loop-index-test.true (λ is. omega arith) c.in_err-begun.ensures named)

pub loop-index-preserved : goal.loop-index-preserved
loop-index-preserved c = elim c.if-unit-gt-BRACKET.branch [
  | then-unit-gt-BRACKET w ↦ rw w.begun-is (seen_more c.args.text.now c.loop-index.begun true c.loop-index.index c.loop-index.invariant c.loop-index-test.true (behind_beyond c.loop-index.begun _ w.if-unit-gt-BRACKET.true))
  | else-unit-gt-BRACKET+else-unit-eq-SEMICOLON+in_ok-begun w ↦ rw w.begun-is (seen_more c.args.text.now c.loop-index.begun w.in_ok-begun.begun c.loop-index.index c.loop-index.invariant c.loop-index-test.true w.in_ok-begun.ensures)
]

pub returns : goal.returns
returns c = λ name rest named.
    no_name_left _ _ _ name rest c.loop-index.invariant c.loop-index-test.false named
