use Rattle.std.proofs.Common.{arith}
use Rattle.cb_dag.proofs.Listings.{list_many, list_more}
use Rattle.cb_dag.proofs.edges.list_edge.Goals as goal

pub returns-then-len-ge-MOST_EDGES-clause-fault : goal.returns-then-len-ge-MOST_EDGES-clause-fault
returns-then-len-ge-MOST_EDGES-clause-fault c =
    list_many c.args.joined.now c.args.edges.now.items c.args.node c.args.from c.requires.before c.args.other c.requires.next c.requires.differ
    (omega (arith, c.if-len-ge-MOST_EDGES.true, c.len.ensures, c.args.edges.now.ok.0))

pub returns-clause-edges : goal.returns-clause-edges
returns-clause-edges c =
    list_more c.args.joined.now c.args.edges.now.items c.args.node c.args.from c.requires.before c.args.other c.requires.next c.requires.differ c.push.new.self.items
    c.in_ok-push.ensures.items (omega (arith, c.if-len-ge-MOST_EDGES.false, c.len.ensures, c.args.edges.now.ok.0))
