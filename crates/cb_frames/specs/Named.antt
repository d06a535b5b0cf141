-- The entries of roots, and what the roots name.
use Rattle.std.specs.Prelude.{ℕ, ◌<◌, ◌↔◌}
use Rattle.std.specs.List.{Contains}
use Rattle.cb_plain.specs.Reach.{root_references}
use Rattle.cb_plain.specs.State.{Roots}
use Rattle.cb_frames.specs.Entries.{entries}

-- the entries other than 0 are exactly what the roots name
abbrev pub EntriesAreRoots : Type 0
EntriesAreRoots = (roots : Roots) (serial : ℕ) → Contains (root_references roots) serial ↔ ((0 < serial) × Contains (entries roots) serial)
