-- What this crate's own functions cite of entering names, and no public clause.
use Rattle.std.specs.Prelude.{ℕ, Bool, List, map, ◌&&◌}
use Rattle.std.specs.Bool.{beq}
use Rattle.cb_link.specs.Numbers.{same_name}
use Rattle.cb_load.specs.declared.entries.Key.{Key}
use Rattle.cb_load.specs.Names.{Entry}

-- the entry that a key is
abbrev pub key_entry : Key → Entry
key_entry key = record { name = key.name.items; needed = key.needed }

-- whether an entry is just this one
abbrev pub is_same : Entry → Entry → Bool
is_same entry other = same_name entry.name other.name && beq entry.needed other.needed

-- names that are all needed, or that all aren't
abbrev pub marked : Bool → List (List ℕ) → List Entry
marked needed names = map (λ name. record { name = name; needed = needed }) names
