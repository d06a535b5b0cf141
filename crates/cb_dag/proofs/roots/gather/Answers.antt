use Rattle.std.proofs.Common.{◌≡◌, ◌∙◌, ap, arith, refl, subst, sym, true, length, ◌∷◌}
use Rattle.std.proofs.lemmas.List.{get_or_read}
use Rattle.cb_dag.specs.Search.{IsGathering}
use Rattle.cb_dag.proofs.Among.{in_front}
use Rattle.cb_dag.proofs.Gathers.{gather_first, gathered}
use Rattle.cb_dag.specs.Search.{is_in}
use Rattle.cb_dag.proofs.roots.gather.Goals as goal

pub loop-node-init : goal.loop-node-init
loop-node-init c =
    gather_first c.args.grid.now c.args.roots.now.items c.args.root c.requires.within c.requires.before _ c.push.new.self
    (omega (arith, c.if-index-nodes.false, c.nodes-nodes.ensures.nodes, get_or_read c.args.roots.now.items c.args.root c.index.result.now (omega (arith, c.requires.within, c.requires.before.each)) c.index.ensures 0))
    refl (c.in_ok-push.ensures ∙ ap (λ nodes. c.args.root ∷ nodes) c.requires.none)

pub take_in-requires-clause-node : goal.take_in-requires-clause-node
take_in-requires-clause-node c =
    (c.loop-node.invariant.rooted c.in-Some.node (subst (λ nodes. is_in c.in-Some.node nodes ≡ true) (sym c.in-Some.ensures) (in_front c.in-Some.node c.pop.new.self))).0

pub loop-node-preserved : goal.loop-node-preserved
loop-node-preserved c =
    c.in_ok-take_in.ensures.gathered c.args.roots.now.items
    (subst (λ nodes. IsGathering c.args.grid.now c.args.roots.now.items c.loop-node.roots.items c.args.root nodes (length c.args.grid.now) 0) c.in-Some.ensures c.loop-node.invariant)

pub returns-clause-roots : goal.returns-clause-roots
returns-clause-roots c =
    gathered c.args.grid.now c.args.roots.now.items c.args.root c.requires.within c.requires.before c.loop-node.roots.items
    (omega (arith, c.if-index-nodes.false, c.nodes-nodes.ensures.nodes, get_or_read c.args.roots.now.items c.args.root c.index.result.now (omega (arith, c.requires.within, c.requires.before.each)) c.index.ensures 0))
    c.nodes-nodes.ensures.square c.requires.back
    (subst (λ nodes. IsGathering c.args.grid.now c.args.roots.now.items c.loop-node.roots.items c.args.root nodes (length c.args.grid.now) 0) c.in_default.ensures.0 c.loop-node.invariant)
