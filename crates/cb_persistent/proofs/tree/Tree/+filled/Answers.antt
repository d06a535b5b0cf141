use Rattle.std.proofs.Common.{arith, ◌+◌, ◌/◌, replicate}
use Rattle.cb_persistent.proofs.Balance.{filled_halves, shared_tree}
use Rattle.cb_persistent.proofs.tree.Tree.+filled.Goals as goal

pub returns-in_ok-odd-clause-less : goal.returns-in_ok-odd-clause-less
returns-in_ok-odd-clause-less g t c =
    let one = shared_tree (replicate (c.args.len / 2) c.args.item) c.in_ok-less.less c.in_ok-share.field-0 c.in_ok-less.ensures.less c.in_ok-share.ensures.items c.in_ok-share.ensures.balanced in
    let other = shared_tree (replicate (c.args.len / 2) c.args.item) c.in_ok-less.less c.in_ok-share-2.field-0 c.in_ok-less.ensures.less c.in_ok-share-2.ensures.items c.in_ok-share-2.ensures.balanced in
    filled_halves _ _ _ _ _ _ _ (omega arith) (omega arith) (omega arith) one other c.in_ok-even.ensures.items c.in_ok-even.ensures.balanced

pub returns-in_ok-odd-clause-more : goal.returns-in_ok-odd-clause-more
returns-in_ok-odd-clause-more g t c =
    filled_halves _ _ _ _ _ _ _ (omega arith) (omega arith) (omega arith) c.in_ok-less.ensures.less c.in_ok-less.ensures.more c.in_ok-odd.ensures.items c.in_ok-odd.ensures.balanced

pub returns-in_ok-even-2-clause-less : goal.returns-in_ok-even-2-clause-less
returns-in_ok-even-2-clause-less g t c =
    let other = shared_tree (replicate (c.args.len / 2 + 1) c.args.item) c.in_ok-less.more c.in_ok-share-3.field-0 c.in_ok-less.ensures.more c.in_ok-share-3.ensures.items c.in_ok-share-3.ensures.balanced in
    filled_halves _ _ _ _ _ _ _ (omega arith) (omega arith) (omega arith) c.in_ok-less.ensures.less other c.in_ok-odd-2.ensures.items c.in_ok-odd-2.ensures.balanced

pub returns-in_ok-even-2-clause-more : goal.returns-in_ok-even-2-clause-more
returns-in_ok-even-2-clause-more g t c =
    let one = shared_tree (replicate (c.args.len / 2 + 1) c.args.item) c.in_ok-less.more c.in_ok-share-4.field-0 c.in_ok-less.ensures.more c.in_ok-share-4.ensures.items c.in_ok-share-4.ensures.balanced in
    filled_halves _ _ _ _ _ _ _ (omega arith) (omega arith) (omega arith) one c.in_ok-less.ensures.more c.in_ok-even-2.ensures.items c.in_ok-even-2.ensures.balanced
