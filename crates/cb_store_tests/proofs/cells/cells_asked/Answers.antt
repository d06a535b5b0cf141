use Rattle.std.proofs.Common.{arith, ◌≡◌, ◌/◌, get_or}
use Rattle.std.proofs.lemmas.List.Sums.{sum_by_more}
use Rattle.std.proofs.lemmas.Option.{get_or_from_slice_get}
use Rattle.cb_plain.specs.declared.want.Want.{Want}
use Rattle.cb_store_tests.proofs.cells.cells_asked.Goals as goal

pub loop-i-preserved : goal.loop-i-preserved
loop-i-preserved c =
    let want : Want = c.at.result in
    let there : get_or c.args.request.now c.loop-i.i want ≡ want = get_or_from_slice_get c.args.request.now c.loop-i.i want want c.at.ensures in
    let more = rw there at (sum_by_more (λ (want : Want). want.words / 4) c.args.request.now c.loop-i.i want (omega arith)) in
    omega (arith, more)
