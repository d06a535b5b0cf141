use Rattle.cb_kinds.specs.Basics.{kind_number}
use Rattle.cb_link.proofs.PlacesLaws.{mapped_more}
use Rattle.cb_link.proofs.fixed.numbers_of.Goals as goal

pub loop-name-preserved : goal.loop-name-preserved
loop-name-preserved c =
    mapped_more (λ name. kind_number c.args.kinds.now name.now) c.args.names.now c.loop-name.name-index _ c.loop-name.numbers c.push.new.self _
    c.loop-name-test.true c.loop-name.invariant c.in_ok-number_of_name.ensures c.in_ok-push.ensures.ok
