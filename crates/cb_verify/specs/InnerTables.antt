-- Items at places.
use Rattle.std.specs.Prelude.{ℕ, Option, Some, None, ◌==◌, if◌then◌else◌}

-- an item, if it is at a place
abbrev pub if_at : {Item : Type 0} → ℕ → ℕ × Item → Option (ℕ × Item)
if_at place entry = if entry.0 == place then Some entry else None
