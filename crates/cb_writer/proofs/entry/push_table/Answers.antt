use Rattle.cb_writer.proofs.Spelling.{of_table}
use Rattle.cb_writer.proofs.entry.push_table.Goals as goal

pub push_entries-requires : goal.push_entries-requires
push_entries-requires g c = of_table c.requires
