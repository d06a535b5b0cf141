use Rattle.std.proofs.Common.{◌∙◌, ap, ◌++◌, map}
use Rattle.cb_link.specs.Places.{numbered_in}
use Rattle.cb_link.proofs.PlacesLaws.{grown_by_list}
use Rattle.cb_link.proofs.numbering.by_number.Goals as goal

pub loop-index-preserved : goal.loop-index-preserved
loop-index-preserved g c =
    grown_by_list c.args.classes.now c.loop-index.index c.index-classes-index.result c.loop-index-test.true c.index-classes-index.is
    (g.T.Numbering.entry_of c.args.kinds.now) (numbered_in g.T.Numbering.members)
    c.loop-index.list c.add_members.new.list c.loop-index.invariant
    (c.in_ok-add_members.ensures
    ∙ ap (λ number. c.loop-index.list ++ map (g.T.Numbering.entry_of c.args.kinds.now) (numbered_in g.T.Numbering.members (number, c.index-classes-index.result)))
    c.in_ok-number_of.ensures.number)
