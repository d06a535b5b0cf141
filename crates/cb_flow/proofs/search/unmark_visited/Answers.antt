use Rattle.std.proofs.Common.{arith, ap}
use Rattle.std.proofs.lemmas.List.{get_or_read}
use Rattle.cb_flow.specs.Visits.{no_visit}
use Rattle.cb_flow.specs.declared.visit.Visit.{Visit}
use Rattle.cb_flow.proofs.search.unmark_visited.Goals as goal

pub index_mut-requires : goal.index_mut-requires
index_mut-requires c =
    let is = get_or_read c.args.visits.now.items c.loop-x.x c.index.result.now (omega (arith, c.requires.few)) c.index.ensures no_visit in
    omega (arith, c.requires.within c.loop-x.x (omega arith), ap (λ (v : Visit). v.part) is, c.loop-x.invariant)
