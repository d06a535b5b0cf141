use Rattle.std.proofs.Common.{sym, subst, arith, ◌+◌}
use Rattle.cb_points_to.specs.Webs.{Passing}
use Rattle.cb_points_to.specs.declared.web.Web.{Web}
use Rattle.cb_points_to.proofs.Expanding.{passing_more, passing_past}
use Rattle.cb_points_to.proofs.expand.pass_arguments.Goals as goal
use Rattle.cb_points_to.proofs.expand.pass_arguments.Goals.{then-at-len+in_ok-add_edge, else-at-len}

pub add_edge-requires-clause-link : goal.add_edge-requires-clause-link
add_edge-requires-clause-link c = c.requires.links c.loop-at.at _ _ c.get-then-at-len.ensures c.get.ensures

pub loop-at-preserved : goal.loop-at-preserved
loop-at-preserved c =
    let P : Web → Type 0 = λ (w : Web). Passing c.args.constraints.now c.args.looked.now c.args.web.now w c.args.given.now c.args.taken.now (c.loop-at.at + 1) in
    elim c.if-at-len.branch [
      | then-at-len+in_ok-add_edge w ↦
          subst P (sym w.web-is)
          (passing_more c.args.constraints.now c.args.looked.now c.args.web.now c.loop-at.web c.args.given.now c.args.taken.now c.loop-at.at c.loop-at.invariant w.add_edge.new.self _ _ w.get-then-at-len.ensures w.get.ensures w.in_ok-add_edge.ensures)
      | else-at-len w ↦
          subst P (sym w.web-is)
          (passing_past c.args.constraints.now c.args.looked.now c.args.web.now c.loop-at.web c.args.given.now c.args.taken.now c.loop-at.at c.loop-at.invariant (omega arith))
    ]
