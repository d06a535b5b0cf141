use Rattle.std.proofs.Common.{◌≡◌, ◌∙◌, ◌<◌, sym, subst, arith, Some, length, slice_get, below_more}
use Rattle.std.proofs.lemmas.Option.{slice_get_within}
use Rattle.cb_points_to.specs.Looking.{IsSaidOf}
use Rattle.cb_points_to.specs.declared.inclusion.Inclusion.{Inclusion}
use Rattle.cb_points_to.proofs.Growing.{keeps_on}
use Rattle.cb_points_to.proofs.Looked.{same_inclusion}
use Rattle.cb_points_to.proofs.Solved.{said_of_still, said_start}
use Rattle.cb_points_to.proofs.solver.start.Goals as goal

pub loop-place-preserved : goal.loop-place-preserved
loop-place-preserved c =
    let one = c.in_ok-start_at.ensures in (
      keeps_on c.args.constraints.now c.args.looked.now c.args.web.now c.loop-place.web c.start_at.new.web c.loop-place.invariant.0 one.keeps,
      below_more
          (λ i. (inclusion : Inclusion) → slice_get c.args.constraints.now.inclusions i ≡ Some inclusion → IsSaidOf c.args.constraints.now c.args.looked.now c.start_at.new.web inclusion)
          c.loop-place.place
          (λ i low inclusion is. said_of_still c.args.constraints.now c.args.looked.now c.loop-place.web c.start_at.new.web inclusion one.keeps.grows (c.loop-place.invariant.1 i low inclusion is))
          (λ inclusion is. subst (IsSaidOf c.args.constraints.now c.args.looked.now c.start_at.new.web) (same_inclusion c.inclusion.result.now inclusion (sym c.inclusion.ensures ∙ is))
          (said_start c.args.constraints.now c.args.looked.now c.requires.nothing c.loop-place.web c.start_at.new.web c.inclusion.result.now one)),
    )

pub returns : goal.returns
returns c = record {
  keeps = c.loop-place.invariant.0;
  said = λ i inclusion is.
      let low : i < length c.args.constraints.now.inclusions = slice_get_within c.args.constraints.now.inclusions i inclusion is in
      c.loop-place.invariant.1 i (omega (arith, low, c.inclusion_count-place-end.ensures)) inclusion is;
}
