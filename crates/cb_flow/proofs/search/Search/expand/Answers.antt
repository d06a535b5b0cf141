use Rattle.cb_flow.proofs.Visiting.{grown_on}
use Rattle.cb_flow.proofs.search.Search.expand.Goals as goal

pub returns-clause-grows : goal.returns-clause-grows
returns-clause-grows c =
    grown_on c.args.self.now.visits.items c.go_on.new.self.visits.items c.give_back.new.self.visits.items c.args.self.now.count c.go_on.new.self.count c.give_back.new.self.count
    c.args.self.now.seen.items c.go_on.new.self.seen.items c.give_back.new.self.seen.items c.go_on.ensures.grows c.give_back.ensures.grows
