use Rattle.std.proofs.Common.{arith}
use Rattle.std.proofs.lemmas.List.Sums.{sum_by_more}
use Rattle.std.proofs.lemmas.Option.{get_or_from_slice_get}
use Rattle.cb_cut.proofs.sums.from_source.Goals as goal

pub loop-part-preserved : goal.loop-part-preserved
loop-part-preserved c = (
  omega (
    arith,
    sum_by_more (λ x. x) c.args.flow.now.sources c.loop-part.part 0 (omega (arith, c.requires)),
    get_or_from_slice_get c.args.flow.now.sources c.loop-part.part c.source.result 0 c.source.ensures,
    c.from-total.ensures,
    c.loop-part.invariant.0,
  ),
  omega (arith, c.from-total.ensures, c.source.type_inv, c.loop-part.invariant.1),
)
