use Rattle.cb_dag.proofs.Searches.{popped, went_back}
use Rattle.cb_dag.proofs.search.Search.go_back.Goals as goal

pub returns-clause-search : goal.returns-clause-search
returns-clause-search c =
    went_back c.args.grid.now c.args.self.now.seen.items c.args.self.now.cursors.items c.args.self.now.trail c.args.self.now.left c.pop.new.self c.push.new.self c.args.node
    c.requires.before c.requires.top c.requires.unseen (popped c.args.self.now.trail c.pop.new.self c.pop.result c.args.node c.requires.top c.pop.ensures) c.in_ok-push.ensures
