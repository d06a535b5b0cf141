use Rattle.std.proofs.Common.{◌∙◌, map, pred, refl, sym, arith, Some}
use Rattle.cb_heap.specs.Reading.{seen}
use Rattle.cb_mapheap.proofs.Calls.{bounded, collects_same, refuses, words_now}
use Rattle.cb_mapheap.proofs.map_heap.MapHeapStore.make_room.Goals as goal

pub returns-then-one_reaches-clause-collected : goal.returns-then-one_reaches-clause-collected
returns-then-one_reaches-clause-collected c = collects_same c.args.self.now.objects c.args.self.now.objects c.args.roots.now.roots refl c.requires.closed

pub returns-then-one_reaches-clause-ruled : goal.returns-then-one_reaches-clause-ruled
returns-then-one_reaches-clause-ruled c =
    let live = words_now c.self.invariant c.self.view_is in
    refuses (seen pred (map Some c.args.self.now.objects) c.args.roots.now.roots) c.args.request.now c.len.result (omega (arith, live, c.len.ensures, c.self.inside.words.ok)) (sym c.one_reaches.ensures ∙ c.if-one_reaches.true)

pub returns-clause-collected : goal.returns-clause-collected
returns-clause-collected c = collects_same c.args.self.now.objects c.grant.new.self.objects c.args.roots.now.roots c.grant.ensures.objects c.requires.closed

pub returns-clause-bounded : goal.returns-clause-bounded
returns-clause-bounded c =
    bounded c.grant.result c.map_err.result c.args.self.now.objects c.grant.new.self.objects c.args.request.now c.map_err.ensures.variant c.grant.ensures.objects (sym c.one_reaches.ensures ∙ c.if-one_reaches.false) c.grant.ensures.serials
