-- Tables as they lie in one list, one behind another.
use Rattle.std.specs.Prelude.{ℕ, ◌^◌, ◌<◌, ◌≤◌, List, length, slice_range, slice_set}
use Rattle.cb_plain.specs.declared.table.Table.{Table}
use Rattle.cb_plain.specs.declared.table.Table.TheVariants as tables
use Rattle.cb_plain.specs.State.{Tables}
use Rattle.cb_frames.specs.declared.object_tables.Starts.{Starts}

abbrev pub start_of : Starts → Table → ℕ
start_of starts tables.Constants = 0
start_of starts tables.ClassObjects = starts.classes
start_of starts tables.Integers = starts.integers
start_of starts tables.Longs = starts.longs
start_of starts tables.Characters = starts.characters
start_of starts tables.Booleans = starts.booleans

abbrev pub end_of : List ℕ → Starts → Table → ℕ
end_of all starts tables.Constants = starts.classes
end_of all starts tables.ClassObjects = starts.integers
end_of all starts tables.Integers = starts.longs
end_of all starts tables.Longs = starts.characters
end_of all starts tables.Characters = starts.booleans
end_of all starts tables.Booleans = length all

abbrev pub table_at : List ℕ → Starts → Table → List ℕ
table_at all starts which = slice_range all (start_of starts which) (end_of all starts which)

abbrev pub tables_in : List ℕ → Starts → Tables
tables_in all starts =
    record { constants = table_at all starts tables.Constants; classes = table_at all starts tables.ClassObjects; integers = table_at all starts tables.Integers; longs = table_at all starts tables.Longs; characters = table_at all starts tables.Characters; booleans = table_at all starts tables.Booleans }

pub record AreCut (all : List ℕ) (starts : Starts) : Type 0 where
  pub integers : starts.classes ≤ starts.integers
  pub longs : starts.integers ≤ starts.longs
  pub characters : starts.longs ≤ starts.characters
  pub booleans : starts.characters ≤ starts.booleans
  pub end : starts.booleans ≤ length all
  pub few : length all < 2 ^ 34

-- tables with another object at a place of one
abbrev pub with_place : Tables → Table → ℕ → ℕ → Tables
with_place held tables.Constants place to = record held { constants = slice_set held.constants place to }
with_place held tables.ClassObjects place to = record held { classes = slice_set held.classes place to }
with_place held tables.Integers place to = record held { integers = slice_set held.integers place to }
with_place held tables.Longs place to = record held { longs = slice_set held.longs place to }
with_place held tables.Characters place to = record held { characters = slice_set held.characters place to }
with_place held tables.Booleans place to = record held { booleans = slice_set held.booleans place to }
