use Rattle.std.proofs.Common.{◌≡◌, ◌∙◌, sym, subst, arith, ℕ, Some, get_or, slice_get, below_more}
use Rattle.std.specs.List.{Contains}
use Rattle.cb_points_to.specs.Lists.{InRow}
use Rattle.cb_points_to.specs.Looking.{IsSaidNew}
use Rattle.cb_points_to.specs.declared.inclusion.Inclusion.{Inclusion}
use Rattle.cb_points_to.proofs.Growing.{keeps_on}
use Rattle.cb_points_to.proofs.Looked.{new_still, same_inclusion}
use Rattle.cb_points_to.proofs.Marked.{from_all, in_row_item}
use Rattle.cb_points_to.proofs.look.look_at_all.Goals as goal

pub inclusion-inclusion-requires : goal.inclusion-inclusion-requires
inclusion-inclusion-requires c =
    c.requires.watches.there c.args.member.node _
    (in_row_item c.args.watching.now c.args.member.node c.as_slice-place-items.result.now c.loop-place.place-index 0 (c.as_slice-place-items.ensures ∙ c.row.ensures) c.loop-place-test.true)

pub loop-place-preserved : goal.loop-place-preserved
loop-place-preserved c =
    let one = c.in_ok-look_at_one.ensures in (
      keeps_on c.args.constraints.now c.args.looked.now c.args.web.now c.loop-place.web c.look_at_one.new.web c.loop-place.invariant.0 one.keeps,
      below_more
          (λ k. (inclusion : Inclusion) → slice_get c.args.constraints.now.inclusions (get_or c.as_slice-place-items.result.now k 0) ≡ Some inclusion → IsSaidNew c.args.constraints.now c.args.looked.now c.look_at_one.new.web inclusion c.args.member.node c.args.member.site)
          c.loop-place.place-index
          (λ k low inclusion is. new_still c.args.constraints.now c.loop-place.web c.look_at_one.new.web one.keeps.grows inclusion c.args.looked.now c.args.member.node c.args.member.site (c.loop-place.invariant.1 k low inclusion is))
          (λ inclusion is. subst (λ i. IsSaidNew c.args.constraints.now c.args.looked.now c.look_at_one.new.web i c.args.member.node c.args.member.site) (same_inclusion c.inclusion-inclusion.result.now inclusion (sym c.inclusion-inclusion.ensures ∙ is)) one.says),
    )

pub returns : goal.returns
returns c =
    let said = λ (i : ℕ) (inclusion : Inclusion) (is : slice_get c.args.constraints.now.inclusions i ≡ Some inclusion) (there : InRow c.args.watching.now c.args.member.node i).
    from_all (λ p. (inclusion : Inclusion) → slice_get c.args.constraints.now.inclusions p ≡ Some inclusion → IsSaidNew c.args.constraints.now c.args.looked.now c.loop-place.web inclusion c.args.member.node c.args.member.site)
    c.as_slice-place-items.result.now c.loop-place.place-index 0 c.loop-place.invariant.1 (omega arith) i
    (subst (λ all. Contains all i) (sym (c.as_slice-place-items.ensures ∙ c.row.ensures)) there) inclusion is in
    record {
      keeps = c.loop-place.invariant.0;
      says = λ i inclusion is. record {
        first = λ base other at. (said i inclusion is (c.requires.watches.first i c.args.member.node inclusion is base)).first base other at;
        second = λ base own at. (said i inclusion is (c.requires.watches.second i c.args.member.node inclusion is base)).second base own at;
      };
    }
