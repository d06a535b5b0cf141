use Rattle.cb_link.specs.InnerCounts.{HasCounted}
use Rattle.cb_link.proofs.slots.slots.Given as goal

abbrev pub invariant-loop-index : goal.invariant-loop-index
invariant-loop-index l = HasCounted l.hierarchy l.fields l.index l.next.statics l.next.objects.items l.slots
