use Rattle.cb_dag.proofs.Searches.{went_on}
use Rattle.cb_dag.proofs.search.Search.go_on.Goals as goal

pub returns-clause-search : goal.returns-clause-search
returns-clause-search c =
    went_on c.args.grid.now c.args.self.now.seen.items c.args.self.now.cursors.items c.args.self.now.trail c.args.self.now.left c.push.new.self c.args.node c.args.next
    c.requires.before c.requires.top c.requires.unseen c.in_ok-push.ensures
