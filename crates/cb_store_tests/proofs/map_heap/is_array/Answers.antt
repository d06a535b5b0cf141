use Rattle.std.proofs.Common.{Some, map}
use Rattle.cb_store_tests.proofs.MapHeaps.{array_kept, array_reads}
use Rattle.cb_store_tests.proofs.map_heap.is_array.Goals as goal

pub kind-requires : goal.kind-requires
kind-requires c = array_kept c.args.count c.args.array (map Some c.args.heap.now.objects) c.requires.objects c.requires.place

pub get_ref-requires : goal.get_ref-requires
get_ref-requires c = array_reads c.args.count c.args.array c.loop-i.i (map Some c.args.heap.now.objects) c.requires.objects c.requires.place c.loop-i-test.true
