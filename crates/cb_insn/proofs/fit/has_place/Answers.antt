use Rattle.std.proofs.Common.{◌≡◌, ◌<◌, ◌++◌, length, rules}
use Rattle.cb_insn.proofs.Placing.{search_front, search_back}
use Rattle.cb_insn.proofs.fit.has_place.Goals as goal

pub loop-rest-preserved-then-pc-high : goal.loop-rest-preserved-then-pc-high
loop-rest-preserved-then-pc-high c =
    let is : c.loop-rest.rest.now ≡ c.split_at.result.0.now ++ c.split_at.result.1.now = search rules in
    let some : 0 < length c.split_at.result.1.now = search rules in
    search_front _ _ _ _ c.index-high-0.result _ c.loop-rest.invariant is some c.if-pc-high.true

pub loop-rest-preserved : goal.loop-rest-preserved
loop-rest-preserved c =
    let is : c.loop-rest.rest.now ≡ c.split_at.result.0.now ++ c.split_at.result.1.now = search rules in
    let some : 0 < length c.split_at.result.1.now = search rules in
    search_back _ _ _ _ c.index-high-0.result _ c.loop-rest.invariant is some c.if-pc-high.false
