use Rattle.std.proofs.Common.{◌∙◌, sym, subst, arith, get_or, below_more}
use Rattle.std.specs.List.{Contains}
use Rattle.cb_points_to.specs.Looking.{IsSaidAt}
use Rattle.cb_points_to.proofs.Growing.{keeps_on}
use Rattle.cb_points_to.proofs.Looked.{said_still}
use Rattle.cb_points_to.proofs.Marked.{from_all}
use Rattle.cb_points_to.proofs.look.expand_sources.Goals as goal

pub loop-own-preserved : goal.loop-own-preserved
loop-own-preserved c =
    let more = c.in_ok-expand.ensures in (
      keeps_on c.args.constraints.now c.args.looked.now c.args.web.now c.loop-own.web c.expand.new.web c.loop-own.invariant.0 more.keeps,
      below_more (λ k. IsSaidAt c.args.constraints.now c.expand.new.web c.args.inclusion.now (get_or c.as_slice-own-items.result.now k 0) c.args.other) c.loop-own.own-index
          (λ k low. said_still c.args.constraints.now c.loop-own.web c.expand.new.web more.keeps.grows c.args.inclusion.now (get_or c.as_slice-own-items.result.now k 0) c.args.other (c.loop-own.invariant.1 k low))
          more.says,
    )

pub returns : goal.returns
returns c = record {
  keeps = c.loop-own.invariant.0;
  says = λ own there.
      from_all (λ x. IsSaidAt c.args.constraints.now c.loop-own.web c.args.inclusion.now x c.args.other) c.as_slice-own-items.result.now c.loop-own.own-index 0 c.loop-own.invariant.1 (omega arith) own
      (subst (λ all. Contains all own) (sym (c.as_slice-own-items.ensures ∙ c.row.ensures)) there);
}
