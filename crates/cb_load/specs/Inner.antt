-- What this crate's own functions and proofs cite, and no public clause: entries that are entered one after the other.
use Rattle.std.specs.Prelude.{List, [], ◌∷◌, ◌++◌, if◌then◌else◌}
use Rattle.std.specs.List.{list_any}
use Rattle.cb_load.specs.Names.{Entry}
use Rattle.cb_load.specs.Closure.{covers}

-- the entries with one more, where none of them makes it superfluous
abbrev pub entered : List Entry → Entry → List Entry
entered entries entry = if list_any (λ before. covers before entry) entries then entries else entries ++ entry ∷ []

-- with all of these
abbrev pub entered_all : List Entry → List Entry → List Entry
entered_all entries [] = entries
entered_all entries (entry ∷ more) = entered_all (entered entries entry) more
