use Rattle.std.proofs.Common.{◌≡◌, ◌+◌, ◌∙◌, ap, ◌++◌, length, map, subst}
use Rattle.std.specs.List.{flat_map}
use Rattle.std.specs.Prelude.{IfErr}
use Rattle.cb_link.specs.Inner.{IsTooMany}
use Rattle.cb_link.specs.Making.{made_by}
use Rattle.cb_link.specs.Program.{linked_site}
use Rattle.cb_link.specs.InnerSites.{Exceeds, insn_makings, made_at}
use Rattle.cb_link.proofs.Handed.{handed_from}
use Rattle.cb_link.proofs.SitedLaws.{code_fits, code_grows, exceeds, grown, refused_more}
use Rattle.cb_link.proofs.sites.add_code.Goals as goal

pub loop-place-preserved : goal.loop-place-preserved
loop-place-preserved c =
    let placed = c.loop-place-item.result in
    let made : c.as_slice.result.now ≡ made_by c.args.pool.now placed.1 = c.as_slice.ensures ∙ c.in_ok-made.ensures in
    grown c.args.kinds.now c.args.sites.now c.loop-place.sites _ (insn_makings c.args.number c.args.pool.now placed) _ c.loop-place.invariant
    (code_grows c.args.number c.args.pool.now c.args.code.now c.loop-place.place-index placed c.loop-place-test.true c.loop-place-item.is) c.add_made.new.sites
    (c.in_ok-add_made.ensures.added ∙ ap (λ made. c.loop-place.sites ++ map (linked_site c.args.kinds.now) (made_at c.args.number placed.0 made)) made)

pub returns-in_err-add_made-clause-refused : goal.returns-in_err-add_made-clause-refused
returns-in_err-add_made-clause-refused c =
    let placed = c.loop-place-item.result in
    let made : c.as_slice.result.now ≡ made_by c.args.pool.now placed.1 = c.as_slice.ensures ∙ c.in_ok-made.ensures in
    handed_from _ _ c.add_made.result _ c.from_residual-in_err-add_made.ensures c.in_err-add_made.was
    (refused_more _ _
    (exceeds c.args.kinds.now c.args.sites.now c.loop-place.sites _ (insn_makings c.args.number c.args.pool.now placed) _ c.loop-place.invariant
    (code_grows c.args.number c.args.pool.now c.args.code.now c.loop-place.place-index placed c.loop-place-test.true c.loop-place-item.is)
    (flat_map (insn_makings c.args.number c.args.pool.now) c.args.code.now)
    (code_fits c.args.number c.args.pool.now c.args.code.now (c.loop-place.place-index + 1)))
    c.add_made.result
    (subst (λ made. IfErr c.add_made.result (IsTooMany (Exceeds c.loop-place.sites (length (made_at c.args.number placed.0 made))))) made c.add_made.ensures.refused))
