use Rattle.std.proofs.Common.{◌∙◌, sym, subst, arith, get_or, below_more}
use Rattle.std.specs.List.{Contains}
use Rattle.cb_points_to.specs.Looking.{IsSaidAt}
use Rattle.cb_points_to.proofs.Growing.{keeps_on}
use Rattle.cb_points_to.proofs.Looked.{said_still}
use Rattle.cb_points_to.proofs.Marked.{from_all}
use Rattle.cb_points_to.proofs.look.expand_targets.Goals as goal

pub loop-other-preserved : goal.loop-other-preserved
loop-other-preserved c =
    let more = c.in_ok-expand.ensures in (
      keeps_on c.args.constraints.now c.args.looked.now c.args.web.now c.loop-other.web c.expand.new.web c.loop-other.invariant.0 more.keeps,
      below_more (λ k. IsSaidAt c.args.constraints.now c.expand.new.web c.args.inclusion.now c.args.own (get_or c.as_slice-other-items.result.now k 0)) c.loop-other.other-index
          (λ k low. said_still c.args.constraints.now c.loop-other.web c.expand.new.web more.keeps.grows c.args.inclusion.now c.args.own (get_or c.as_slice-other-items.result.now k 0) (c.loop-other.invariant.1 k low))
          more.says,
    )

pub returns : goal.returns
returns c = record {
  keeps = c.loop-other.invariant.0;
  says = λ other there.
      from_all (λ x. IsSaidAt c.args.constraints.now c.loop-other.web c.args.inclusion.now c.args.own x) c.as_slice-other-items.result.now c.loop-other.other-index 0 c.loop-other.invariant.1 (omega arith) other
      (subst (λ all. Contains all other) (sym (c.as_slice-other-items.ensures ∙ c.row.ensures)) there);
}
