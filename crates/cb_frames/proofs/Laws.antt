-- What the entries of roots say of them.
use Rattle.std.proofs.Common.{◌≡◌, length}
use Rattle.cb_plain.specs.State.{Roots}
use Rattle.cb_frames.specs.Entries.{entries, without_references}
use Rattle.cb_frames.specs.Named.{EntriesAreRoots}
use Rattle.cb_frames.proofs.Named as named
use Rattle.cb_frames.proofs.Same as same

-- the entries other than 0 are exactly what the roots name
pub entries_are_roots : EntriesAreRoots
entries_are_roots = named.are_roots

-- how many entries there are depends on the roots without references alone
pub length-entries : (one other : Roots) → without_references one ≡ without_references other → length (entries one) ≡ length (entries other)
length-entries = same.same_length

-- roots with the same entries that are the same without references are the same
pub roots_from_entries : (one other : Roots) → without_references one ≡ without_references other → entries one ≡ entries other → one ≡ other
roots_from_entries = same.same_roots
