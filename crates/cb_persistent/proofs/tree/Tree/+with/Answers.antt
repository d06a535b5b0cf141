use Rattle.std.proofs.Common.{arith}
use Rattle.std.proofs.lemmas.List.{set-append_left, set-append_right}
use Rattle.cb_persistent.proofs.Balance.{items_counted}
use Rattle.cb_persistent.proofs.tree.Tree.+with.Goals as goal

pub returns-in_ok-right-in-Both-clause-items : goal.returns-in_ok-right-in-Both-clause-items
returns-in_ok-right-in-Both-clause-items g t c = grind (arith, items_counted, set-append_left)

pub returns-in_ok-right-in-Both-2-clause-items : goal.returns-in_ok-right-in-Both-2-clause-items
returns-in_ok-right-in-Both-2-clause-items g t c = grind (arith, items_counted, set-append_right)
