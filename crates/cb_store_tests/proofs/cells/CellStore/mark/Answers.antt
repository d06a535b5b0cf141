use Rattle.std.proofs.Common.{◌∙◌, arith, false, pred, true}
use Rattle.std.proofs.lemmas.List.{length-set}
use Rattle.std.proofs.lemmas.Option.{slice_get_within}
use Rattle.cb_heap.specs.Reading.{seen}
use Rattle.cb_store_tests.proofs.MarkLaws.{fewer, next_unmarked, reached_now}
use Rattle.cb_store_tests.proofs.cells.CellStore.mark.Goals as goal

pub bounds-marked-place : goal.bounds-marked-place
bounds-marked-place c =
    omega (
      arith,
      c.loop-place.invariant.four,
      slice_get_within c.loop-place.marked c.in-Some.place false
          (next_unmarked (seen pred c.args.self.now.objects c.args.roots.now.roots) c.loop-place.marked c.in-Some.place c.in-Some.ensures),
    )

pub loop-place-smaller : goal.loop-place-smaller
loop-place-smaller c =
    fewer c.loop-place.marked c.in-Some.place (next_unmarked (seen pred c.args.self.now.objects c.args.roots.now.roots) c.loop-place.marked c.in-Some.place c.in-Some.ensures)

pub loop-place-preserved : goal.loop-place-preserved
loop-place-preserved c = record {
  four = length-set c.loop-place.marked c.in-Some.place true ∙ c.loop-place.invariant.four;
  reached = reached_now (seen pred c.args.self.now.objects c.args.roots.now.roots) c.loop-place.marked c.in-Some.place c.in-Some.ensures c.loop-place.invariant.reached;
}
