use Rattle.std.proofs.Common.{◌≤◌, IsTrue, Some, arith, map, refl, subst, sym}
use Rattle.cb_heap.specs.Kept.{is_number, is_reference}
use Rattle.cb_store_tests.proofs.MapHeaps.{walk_content, walk_next}
use Rattle.cb_store_tests.proofs.map_heap.are_cells.Goals as goal

pub get-requires : goal.get-requires
get-requires c =
    subst (λ content. IsTrue (is_number content)) (sym (walk_content (map Some c.args.heap.now.objects) c.args.count c.loop-last.last 1 c.requires c.loop-last-test.true c.loop-last.invariant)) refl

pub get_ref-last-requires : goal.get_ref-last-requires
get_ref-last-requires c =
    subst (λ content. IsTrue (is_reference content)) (sym (walk_content (map Some c.args.heap.now.objects) c.args.count c.loop-last.last 0 c.requires c.loop-last-test.true c.loop-last.invariant)) refl

pub loop-last-smaller : goal.loop-last-smaller
loop-last-smaller c =
    omega (arith, walk_next (map Some c.args.heap.now.objects) c.args.count c.loop-last.last c.get_ref-last.result c.requires c.loop-last-test.true c.loop-last.invariant c.get_ref-last.ensures, c.loop-last-test.true)

pub loop-last-preserved : goal.loop-last-preserved
loop-last-preserved c =
    let next = walk_next (map Some c.args.heap.now.objects) c.args.count c.loop-last.last c.get_ref-last.result c.requires c.loop-last-test.true c.loop-last.invariant c.get_ref-last.ensures in
    let below : c.get_ref-last.result ≤ c.args.count = omega (arith, next, c.loop-last.invariant) in
    below
