use Rattle.std.proofs.Common.{◌≡◌, ◌≤◌, ◌<◌, ◌+◌, ◌∙◌, ap, arith, subst, sym, length, get_or, set, ◌∷◌}
use Rattle.std.proofs.lemmas.List.{get_or_read, length-set}
use Rattle.cb_dag.specs.Search.{IsGathering, roots_left}
use Rattle.cb_dag.proofs.Gathers.{one_less, take_all, take_known, take_new}
use Rattle.cb_dag.proofs.Among.{in_front}
use Rattle.cb_dag.proofs.roots.take_in.Goals as goal
use Rattle.cb_dag.proofs.roots.take_in.Goals.{then-index-nodes+in_ok-push, else-index-nodes}

pub loop-other-preserved : goal.loop-other-preserved
loop-other-preserved c =
    let inside : c.in-Some.other < length c.loop-other.roots.items = omega (arith, c.in-Some.ensures.1, c.requires.turned.nodes, c.loop-other.invariant.1) in
    let read : c.index.result.now ≡ get_or c.loop-other.roots.items c.in-Some.other 0 = get_or_read c.loop-other.roots.items c.in-Some.other c.index.result.now inside c.index.ensures 0 in
    elim c.if-index-nodes.branch [
      | then-index-nodes+in_ok-push w ↦
          let unknown : length c.args.grid.now ≤ get_or c.loop-other.roots.items c.in-Some.other 0 = omega (arith, read, w.if-index-nodes.true, c.nodes-nodes.ensures.nodes) in
          let is : c.if-index-nodes.roots.items ≡ set c.loop-other.roots.items c.in-Some.other c.args.root = ap (λ v. v.items) w.roots-is in
          let more : c.if-index-nodes.waiting ≡ c.in-Some.other ∷ c.loop-other.waiting = w.waiting-is ∙ w.in_ok-push.ensures in (
            λ first given.
                let path = (given.rooted c.args.node (in_front c.args.node c.args.waiting.now)).2 in
                take_new c.args.grid.now c.args.turned.now first c.args.root c.args.node c.requires.node c.requires.turned
                c.loop-other.roots.items c.if-index-nodes.roots.items c.loop-other.waiting c.if-index-nodes.waiting c.loop-other.from c.in-Some.other
                c.requires.root path (c.loop-other.invariant.0 first given) c.in-Some.ensures unknown is more,
            ap length is ∙ length-set c.loop-other.roots.items c.in-Some.other c.args.root ∙ c.loop-other.invariant.1,
            one_less (length c.args.grid.now) c.loop-other.roots.items c.if-index-nodes.roots.items c.loop-other.waiting c.if-index-nodes.waiting c.in-Some.other c.args.root _
                inside unknown c.requires.root is more c.loop-other.invariant.2,
          )
      | else-index-nodes w ↦
          let known : get_or c.loop-other.roots.items c.in-Some.other 0 < length c.args.grid.now = omega (arith, read, w.if-index-nodes.false, c.nodes-nodes.ensures.nodes) in
          let same = w.roots-is in
          let still = w.waiting-is in (
            λ first given.
                subst (λ v. IsGathering c.args.grid.now first v.items c.args.root c.if-index-nodes.waiting c.args.node (c.in-Some.other + 1)) (sym same)
                (subst (λ nodes. IsGathering c.args.grid.now first c.loop-other.roots.items c.args.root nodes c.args.node (c.in-Some.other + 1)) (sym still)
                (take_known c.args.grid.now c.args.turned.now first c.args.root c.args.node c.requires.node c.requires.turned c.loop-other.roots.items c.loop-other.waiting c.loop-other.from c.in-Some.other
                (c.loop-other.invariant.0 first given) c.in-Some.ensures known)),
            ap (λ v. length v.items) same ∙ c.loop-other.invariant.1,
            subst (λ v. roots_left (length c.args.grid.now) v.items c.if-index-nodes.waiting ≤ roots_left (length c.args.grid.now) c.args.roots.now.items c.args.waiting.now) (sym same)
                (subst (λ nodes. roots_left (length c.args.grid.now) c.loop-other.roots.items nodes ≤ roots_left (length c.args.grid.now) c.args.roots.now.items c.args.waiting.now) (sym still) c.loop-other.invariant.2),
          )
    ]

pub returns-clause-gathered : goal.returns-clause-gathered
returns-clause-gathered c = λ first given.
    take_all c.args.grid.now c.args.turned.now first c.args.root c.args.node c.requires.node c.requires.turned c.loop-other.roots.items c.loop-other.waiting c.loop-other.from
    (c.loop-other.invariant.0 first given) c.in_default.ensures
