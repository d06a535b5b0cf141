use Rattle.std.proofs.Common.{ℕ, ◌++◌, ◌∷◌, [], List, ap, ◌∙◌}
use Rattle.std.proofs.lemmas.List.{append_assoc}
use Rattle.cb_hierarchy.proofs.Ranked.{rank_no, rank_yes}
use Rattle.cb_hierarchy.proofs.parents_first.push_of_rank.Goals as goal
use Rattle.cb_hierarchy.proofs.parents_first.push_of_rank.Goals.{then-ranks-class+in_ok-push, else-ranks-class}

pub loop-class-preserved : goal.loop-class-preserved
loop-class-preserved c =
    let more = c.loop-class.invariant.0 in
    let class = c.loop-class.class in
    elim c.if-ranks-class.branch [
      | then-ranks-class+in_ok-push w ↦ (
        more ++ class ∷ [],
        w.order-is ∙ w.in_ok-push.ensures.ok ∙ ap (λ (order : List ℕ). order ++ class ∷ []) c.loop-class.invariant.1 ∙ append_assoc c.args.order.now more (class ∷ []),
        rank_yes c.args.ranks.now c.args.rank class more c.loop-class.invariant.2 w.if-ranks-class.true,
      )
      | else-ranks-class w ↦ (more, w.order-is ∙ c.loop-class.invariant.1, rank_no c.args.ranks.now c.args.rank class more c.loop-class.invariant.2 w.if-ranks-class.false)
    ]
