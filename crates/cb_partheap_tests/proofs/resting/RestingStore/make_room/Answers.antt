use Rattle.std.proofs.Common.{ap, refl}
use Rattle.cb_heap.specs.Kept.{residents}
use Rattle.cb_partheap_tests.proofs.Rests.{rests_same}
use Rattle.cb_partheap_tests.proofs.resting.RestingStore.make_room.Goals as goal
use Rattle.cb_partheap_tests.proofs.resting.RestingStore.make_room.Goals.{in-Ok, in-Err}

pub returns-clause-collected : goal.returns-clause-collected
returns-clause-collected c = rests_same _ _ _ _ c.args.roots.now.roots c.grant.ensures.kept c.grant.ensures.places c.requires.closed

pub returns-clause-ruled : goal.returns-clause-ruled
returns-clause-ruled c =
    elim c.match-grant.branch [
      | in-Ok w ↦ record { few = λ is. w.in-Ok.ensures.bounded.words refl; had = λ is. absurd (cc (is, w.result-is)); residents = ap residents c.grant.ensures.kept }
      | in-Err w ↦ record { few = λ is. absurd (cc (is, w.result-is)); had = λ is. absurd (cc (is, w.result-is)); residents = ap residents c.grant.ensures.kept }
    ]
