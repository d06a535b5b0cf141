use Rattle.cb_writer.proofs.Spelling.{of_count}
use Rattle.cb_writer.proofs.frame_parts.push_locals.Goals as goal

pub push_entries-requires : goal.push_entries-requires
push_entries-requires c = of_count (rw c.in-Append.is at c.requires)
