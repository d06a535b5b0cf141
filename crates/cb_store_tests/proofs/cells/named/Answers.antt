use Rattle.std.proofs.Common.{arith}
use Rattle.cb_store_tests.proofs.MarkLaws.{is_root, root_at}
use Rattle.cb_store_tests.proofs.cells.named.Goals as goal

pub returns-in-Some : goal.returns-in-Some
returns-in-Some c = record {
  root = is_root c.args.roots.now.roots c.loop-i.i c.reference.result c.in-Some.place c.reference.ensures c.in-Some.ensures.is;
  unmarked = c.in-Some.ensures.unmarked;
}

pub returns : goal.returns
returns c place it =
    let there = root_at c.args.roots.now.roots place it.root in
    omega (arith, there.1, c.loop-i.invariant place there.0 it.unmarked there.2)
