use Rattle.std.proofs.Common.{◌∙◌, arith, length-set, get_or, refl, subst}
use Rattle.cb_hierarchy.specs.InnerReaching.{IsRowBy}
use Rattle.cb_hierarchy.proofs.ReachLaws.{class_within, row_more, table_is}
use Rattle.cb_hierarchy.proofs.selection.Selection.of.Goals as goal

pub class-requires : goal.class-requires
class-requires c = class_within c.args.hierarchy.now c.parents_first-class-items.result.now c.parents_first-class-items.ensures.order c.loop-class.class-index c.loop-class-test.true

pub row_of-requires : goal.row_of-requires
row_of-requires c = class_within c.args.hierarchy.now c.parents_first-class-items.result.now c.parents_first-class-items.ensures.order c.loop-class.class-index c.loop-class-test.true

pub index_mut-requires : goal.index_mut-requires
index_mut-requires c =
    let within = class_within c.args.hierarchy.now c.parents_first-class-items.result.now c.parents_first-class-items.ensures.order c.loop-class.class-index c.loop-class-test.true in
    omega (arith, within, c.loop-class.invariant.0, c.loop-class.rows.ok.0)

pub loop-class-preserved : goal.loop-class-preserved
loop-class-preserved c = (
  length-set c.loop-class.rows.items _ c.in_ok-row.row ∙ c.loop-class.invariant.0,
  row_more c.args.hierarchy.now c.args.methods.now c.parents_first-class-items.result.now c.parents_first-class-items.ensures.order c.loop-class.class-index
      (get_or c.parents_first-class-items.result.now c.loop-class.class-index 0) c.class.result.now c.loop-class.rows.items c.in_ok-row.row
      c.loop-class-test.true refl c.class.ensures c.loop-class.invariant.0 c.loop-class.invariant.1
      (subst (λ rows. IsRowBy c.args.hierarchy.now c.args.methods.now rows c.class.result.now.superclass (get_or c.parents_first-class-items.result.now c.loop-class.class-index 0) c.in_ok-row.row.items)
      c.as_slice.ensures.value c.in_ok-row.ensures),
)

pub returns : goal.returns
returns c =
    table_is c.args.hierarchy.now c.args.methods.now c.parents_first-class-items.result.now c.parents_first-class-items.ensures.order c.loop-class.class-index c.loop-class.rows.items
    c.loop-class-test.false c.loop-class.invariant.1
