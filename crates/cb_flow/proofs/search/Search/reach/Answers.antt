use Rattle.std.proofs.Common.{◌≡◌, ◌∙◌, arith, sym, false}
use Rattle.std.proofs.lemmas.List.{get_or_read}
use Rattle.cb_dag.specs.Marks.{marked}
use Rattle.cb_flow.proofs.Visiting.{grown, marks_room, visited_more}
use Rattle.cb_flow.proofs.search.Search.reach.Goals as goal

pub index_mut-requires : goal.index_mut-requires
index_mut-requires c =
    let off : marked c.args.self.now.seen.items c.args.visit.part ≡ false = sym (get_or_read c.args.self.now.seen.items c.args.visit.part c.index.result.now c.requires.part c.index.ensures false) ∙ c.if-index.false in
    omega (arith, marks_room c.args.self.now.seen.items c.args.visit.part c.requires.part off, c.requires.counted, c.requires.each, c.args.self.now.visits.ok.0)

pub returns-clause-search : goal.returns-clause-search
returns-clause-search c = λ gains edges flow search is.
    visited_more gains edges flow c.args.self.now.visits.items c.args.self.now.count c.args.self.now.seen.items c.args.visit search is
    (sym (get_or_read c.args.self.now.seen.items c.args.visit.part c.index.result.now c.requires.part c.index.ensures false) ∙ c.if-index.false)

pub returns-clause-grows : goal.returns-clause-grows
returns-clause-grows c =
    let off : marked c.args.self.now.seen.items c.args.visit.part ≡ false = sym (get_or_read c.args.self.now.seen.items c.args.visit.part c.index.result.now c.requires.part c.index.ensures false) ∙ c.if-index.false in
    grown c.args.self.now.visits.items c.args.self.now.count c.args.self.now.seen.items c.args.visit
    (omega (arith, marks_room c.args.self.now.seen.items c.args.visit.part c.requires.part off, c.requires.counted, c.requires.each))
