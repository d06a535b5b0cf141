-- What a table of places keeps, which no public clause cites.
use Rattle.std.specs.Prelude.{ℕ, ◌-◌, ◌^◌, Bool, List, Option, Some, None, nat_lt, option_and_then, slice_get, if◌then◌else◌}

-- a number of 32 bits is an index, but for the last one
abbrev pub known : ℕ → Option ℕ
known number = if nat_lt number (2 ^ 32 - 1) then Some number else None

-- the index that a row has at a place
abbrev pub index_in : List ℕ → ℕ → Option ℕ
index_in row place = option_and_then known (slice_get row place)

-- an index is entered at a place, unless another one is there
abbrev pub entered : Option ℕ → Bool → ℕ → Option ℕ
entered None here index = if here then Some index else None
entered (Some first) here index = Some first
