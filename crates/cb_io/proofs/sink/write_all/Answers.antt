use Rattle.std.proofs.lemmas.Bool.{false≢true}
use Rattle.std.proofs.lemmas.List.{take_rest}
use Rattle.cb_io.proofs.Writing.{written_more}
use Rattle.cb_io.proofs.sink.write_all.Goals as goal

pub loop-rest-preserved : goal.loop-rest-preserved
loop-rest-preserved g c =
    let rises = c.in_ok-count.ensures.cause in
    written_more _ _ _ _ _ _ _ _ _ _ c.loop-rest.invariant c.in_ok-count.ensures.taken (take_rest c.loop-rest.rest.now c.in_ok-count.count) rises.never_falls (λ below rose. false≢true ((rises.exact below).1 rose))
