-- What a folder has, and what a call finds in it.
use Rattle.std.specs.Prelude.{◌≡◌, ◌≢◌, ℕ, ◌<◌, ◌≤◌, List, length, map, String, Vec, Option, Some, None, IsSomeAnd}
use Rattle.std.specs.Ordering.{nat_cmp}
use Rattle.std.specs.Cmp.Lexicographic.{slice_cmp}
use Rattle.std.specs.FinMap.{FinMap, code, get, from_entries}
use Rattle.std.specs.Coded.{Coded, coded_list, coded_ℕ}
use Rattle.std.specs.BTreeMap.{BTreeMap}
use Rattle.std.specs.String.{string_bytes}
use Rattle.std.specs.declared.alloc.Global.{Global}
use Rattle.cb_io.specs.declared.folder.Found.{Found}
use Rattle.cb_io.specs.declared.folder.Found.TheVariants.{Bytes, Absent, TooLong}

-- a finite map from paths, as bytes of their UTF-8, to the bytes of files
abbrev pub Files : Type 0
Files = FinMap (slice_cmp nat_cmp) (List ℕ)

-- the code by which proofs tell two of them apart
abbrev pub files_code : Coded Files
files_code = code (coded_list coded_ℕ) (coded_list coded_ℕ)

-- what a call with this limit may find, where `file` is the bytes of the file, or none where there is no file
abbrev pub FindsAt : Option (List ℕ) → ℕ → Found → Type 0
FindsAt file limit (Bytes bytes) = (file ≡ Some bytes.items) × (length bytes.items ≤ limit)
FindsAt file limit Absent = file ≡ None
FindsAt file limit TooLong = IsSomeAnd file (λ bytes. limit < length bytes)

-- what it may find at a path
abbrev pub Finds : Files → List ℕ → ℕ → Found → Type 0
Finds files path limit found = FindsAt (get files path) limit found

-- bytes that are given are no more than the limit. This is said also of a folder that tells nothing of its files
abbrev pub IsWithin : ℕ → Found → Type 0
IsWithin limit (Bytes bytes) = length bytes.items ≤ limit
IsWithin limit Absent = Unit {0}
IsWithin limit TooLong = Unit {0}

-- there is a file
abbrev pub IsThere : Found → Type 0
IsThere found = found ≢ Absent

-- the files that std's map from paths to bytes has
abbrev pub files_of : BTreeMap (String Global) (Vec ℕ Global) → Files
files_of kept = from_entries (map (λ entry. (string_bytes entry.0, entry.1.items)) kept.entries)
