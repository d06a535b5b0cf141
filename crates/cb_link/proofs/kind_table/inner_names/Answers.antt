use Rattle.cb_link.specs.InnerKinds.{inner_name}
use Rattle.cb_link.proofs.RowLaws.{row_more}
use Rattle.cb_link.proofs.kind_table.inner_names.Goals as goal

pub loop-kind-preserved : goal.loop-kind-preserved
loop-kind-preserved c =
    row_more inner_name c.args.kinds.now c.loop-kind.kind c.text.result.now c.loop-kind.names c.push.new.self c.parts_of.result.class.now c.text.ensures
    c.loop-kind.invariant c.parts_of.ensures.class c.in_ok-push.ensures.added
