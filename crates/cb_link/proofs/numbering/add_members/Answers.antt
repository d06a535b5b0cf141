use Rattle.std.proofs.Common.{◌∙◌, ap, ◌++◌, ◌∷◌, []}
use Rattle.cb_link.proofs.PlacesLaws.{grown_by_one}
use Rattle.cb_link.proofs.numbering.add_members.Goals as goal

pub loop-index-preserved : goal.loop-index-preserved
loop-index-preserved g c =
    grown_by_one c.of_class-members.result.now c.loop-index.index c.index-members-index.result c.loop-index-test.true c.index-members-index.is
    (g.T.Numbering.entry_of c.args.kinds.now) (λ own. record { class = c.args.number; place = own.0; pool = c.args.class.now.pool; member = own.1 })
    c.args.list.now c.loop-index.list c.push.new.self c.loop-index.invariant
    (c.in_ok-push.ensures.ok ∙ ap (λ linked. c.loop-index.list ++ linked ∷ [])
    (c.in_ok-linked.ensures
    ∙ ap (λ place. g.T.Numbering.entry_of c.args.kinds.now (record { class = c.args.number; place = place; pool = c.args.class.now.pool; member = c.index-members-index.result }))
    c.in_ok-place.ensures.number))
