use Rattle.std.proofs.Common.{◌≡◌, ◌++◌, take}
use Rattle.std.specs.List.{flat_map}
use Rattle.cb_writer.proofs.entry.push_entries.Given as goal

abbrev pub invariant-loop-entry : goal.invariant-loop-entry
invariant-loop-entry g l = l.bytes.items ≡ l.initial.bytes.items ++ flat_map (g.T.Entry.bytes_of l.names) (take l.entry-index l.entries)
