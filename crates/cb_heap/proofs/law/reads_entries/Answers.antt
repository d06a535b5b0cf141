use Rattle.cb_frames.proofs.Laws.{entries_are_roots}
use Rattle.cb_heap.proofs.Laws as laws
use Rattle.cb_heap.proofs.law.reads_entries.Goals as goal

pub returns : goal.returns
returns c = record { met = entries_are_roots; through = laws.entries_read; alike = laws.entries_alike }
