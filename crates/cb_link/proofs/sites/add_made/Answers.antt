use Rattle.std.proofs.Common.{◌≡◌, ◌+◌, ◌∙◌, ap, ℕ, List, [], ◌∷◌, ◌++◌}
use Rattle.cb_kinds.specs.Basics.{kind_number}
use Rattle.cb_link.specs.Making.{Making}
use Rattle.cb_link.specs.InnerSites.{made_at}
use Rattle.cb_link.proofs.Handed.{handed_from}
use Rattle.cb_link.proofs.PlacesLaws.{map_more}
use Rattle.cb_link.proofs.SitedLaws.{exceeds, grown, made_fits, refused_more}
use Rattle.cb_link.proofs.sites.add_made.Goals as goal

pub loop-index-preserved : goal.loop-index-preserved
loop-index-preserved c =
    let make : ℕ × List ℕ → Making = λ made. record { method = c.args.method; place = c.args.place; dimension = made.0; kind = made.1 } in
    let kind : c.kind_number.result ≡ kind_number c.args.kinds.now c.index-made-index.result = c.kind_number.ensures ∙ ap (kind_number c.args.kinds.now) c.as_slice.ensures in
    grown c.args.kinds.now c.args.sites.now c.loop-index.sites _ (make (c.loop-index.index, c.index-made-index.result) ∷ []) _ c.loop-index.invariant
    (map_more c.args.made.now c.loop-index.index c.index-made-index.result c.loop-index-test.true c.index-made-index.is make) c.push.new.self
    (c.in_ok-push.ensures.added
    ∙ λ i. c.loop-index.sites ++ record { method = c.args.method; place = c.args.place; dimension = c.in_ok-number_of.ensures.number i; kind = kind i } ∷ [])

pub returns-in_err-push-clause-refused : goal.returns-in_err-push-clause-refused
returns-in_err-push-clause-refused c =
    let make : ℕ × List ℕ → Making = λ made. record { method = c.args.method; place = c.args.place; dimension = made.0; kind = made.1 } in
    handed_from _ _ c.push.result _ c.from_residual-in_err-push.ensures c.in_err-push.was
    (refused_more _ _
    (exceeds c.args.kinds.now c.args.sites.now c.loop-index.sites _ (make (c.loop-index.index, c.index-made-index.result) ∷ []) _ c.loop-index.invariant
    (map_more c.args.made.now c.loop-index.index c.index-made-index.result c.loop-index-test.true c.index-made-index.is make)
    (made_at c.args.method c.args.place c.args.made.now) (made_fits c.args.method c.args.place c.args.made.now (c.loop-index.index + 1)))
    c.push.result c.push.ensures.refused)
