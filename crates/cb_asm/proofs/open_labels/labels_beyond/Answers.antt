use Rattle.std.proofs.Common.{◌≡◌, ◌∙◌, ap, sym, arith, length, map, take}
use Rattle.std.proofs.lemmas.Bool.{not-true, not-false}
use Rattle.std.proofs.Math.Seq.{take-length}
use Rattle.cb_asm.proofs.Labels.{are_open, leaves_next, takes_next}
use Rattle.cb_asm.proofs.open_labels.labels_beyond.Goals as goal
use Rattle.cb_asm.proofs.open_labels.labels_beyond.Goals.{then-branch+in_ok-push, else-branch}

pub loop-label-preserved : goal.loop-label-preserved
loop-label-preserved c = elim c.if-branch.branch [
  | then-branch+in_ok-push w ↦ rw (w.labels-is, w.in_ok-push.ensures.items) (takes_next _ _ _ _ _ _ _ c.loop-label.invariant c.loop-label-test.true c.in_ok-insert.ensures.updates (not-true _ (sym c.in_ok-insert.ensures.added ∙ w.if-branch.true)))
  | else-branch w ↦ rw w.labels-is (leaves_next _ _ _ _ _ _ _ c.loop-label.invariant c.loop-label-test.true c.in_ok-insert.ensures.updates (not-false _ (sym c.in_ok-insert.ensures.added ∙ w.if-branch.false)))
]

pub returns : goal.returns
returns c = λ lines are stand.
    let whole : c.loop-label.label-index ≡ length c.args.named.now = omega (arith, c.loop-label-test.false, c.loop-label.auto.label-index-end) in
    let all : take c.loop-label.label-index c.args.named.now ≡ c.args.named.now = ap (λ count. take count c.args.named.now) whole ∙ take-length c.args.named.now in
    are_open _ _ lines _ _ c.loop-label.invariant (ap (λ named. map (λ label. label.now) named) all ∙ are) stand
