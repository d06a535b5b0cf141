use Rattle.cb_link.specs.InnerKinds.{row_with}
use Rattle.cb_link.proofs.RowLaws.{row_more}
use Rattle.cb_link.proofs.kind_table.rows_of.Goals as goal

pub loop-kind-preserved : goal.loop-kind-preserved
loop-kind-preserved c =
    row_more (row_with c.args.resolver.now c.args.kinds.now c.args.names.now) c.args.kinds.now c.loop-kind.kind c.text.result.now c.loop-kind.rows c.push.new.self c.row_of.result
    c.text.ensures c.loop-kind.invariant c.row_of.ensures c.in_ok-push.ensures.ok
