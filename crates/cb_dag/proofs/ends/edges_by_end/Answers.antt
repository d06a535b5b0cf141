use Rattle.std.proofs.Common.{◌<◌, ◌++◌, ◌∷◌, [], ◌∙◌, ap, arith, refl, subst, sym, length, get_or}
use Rattle.std.proofs.lemmas.List.{get_or_read}
use Rattle.cb_dag.specs.Places.{end_of}
use Rattle.cb_dag.proofs.EdgePlaces.{edges_more, end_within}
use Rattle.cb_dag.proofs.ends.edges_by_end.Goals as goal

pub loop-index-preserved : goal.loop-index-preserved
loop-index-preserved c =
    let within : c.loop-index.index < length c.args.edges.now = omega arith in
    let low : end_of c.args.end (get_or c.args.edges.now c.loop-index.index (0, 0)) < c.args.parts = end_within c.args.end c.args.parts (get_or c.args.edges.now c.loop-index.index (0, 0)) (c.requires.within c.loop-index.index (0, 0) within) in
    let part : c.of-part.result < c.args.parts = subst (λ n. n < c.args.parts) (sym c.of-part.ensures) low in
    edges_more c.args.end c.args.parts c.args.edges.now c.loop-index.lists.items _ c.loop-index.index c.of-part.result c.push-in-loop-index.new.self within c.loop-index.invariant
    part c.of-part.ensures
    (c.in_ok-push-2.ensures.ok ∙ ap (λ front. front ++ c.loop-index.index ∷ [])
    (get_or_read c.loop-index.lists.items c.of-part.result c.index_mut.result.now (omega (arith, part, c.loop-index.invariant.each)) c.index_mut.ensures.value []))
    refl
