-- The closure of the names that a class needs: the entries that a main class and the classes which they load add, in the
-- order in which they are added.
use Rattle.std.specs.Prelude.{◌≡◌, ℕ, Bool, true, List, [], ◌∷◌, map, filter, not, take, slice_get, Option, Some, None, ◌&&◌, ◌||◌}
use Rattle.std.specs.List.{flat_map}
use Rattle.cb_link.specs.Numbers.{same_name}
use Rattle.cb_load.specs.Names.{Entry}

-- an entry makes a later one superfluous: it has the same name, and is needed itself where the later one is
abbrev pub covers : Entry → Entry → Bool
covers entry later = same_name entry.name later.name && (entry.needed || not later.needed)

-- each name once, and once more as needed where its first entry was not
abbrev pub firsts : List Entry → List Entry
firsts [] = []
firsts (entry ∷ entries) = entry ∷ filter (λ later. not (covers entry later)) (firsts entries)

-- an entry that was taken up, and the class that it loads: none where its class is loaded already, or has no file
pub record Turn (Class : Type 0) : Type 0 where
  pub entry : Entry
  pub loads : Option Class

-- what a class adds, if there is one
abbrev pub added : {Class : Type 0} → (Class → List Entry) → Option Class → List Entry
added names None = []
added names (Some class) = names class

-- the entries of a main class and of the classes that are loaded in turns
abbrev pub entries_of : {Class : Type 0} → (Class → List Entry) → List ℕ → List (Turn Class) → List Entry
entries_of names main turns = firsts (record { name = main; needed = true } ∷ flat_map (λ turn. added names turn.loads) turns)

-- the turns are those of the first entries: the entry at a place is the one that stands there among those of the main class
-- and of the classes loaded before it
abbrev pub IsBegun : {Class : Type 0} → (Class → List Entry) → List ℕ → List (Turn Class) → Type 0
IsBegun {Class} names main turns =
    (place : ℕ) (turn : Turn Class) → slice_get turns place ≡ Some turn → slice_get (entries_of names main (take place turns)) place ≡ Some turn.entry

-- the turns are those of all entries: the closure
pub record IsClosure {Class : Type 0} (names : Class → List Entry) (main : List ℕ) (turns : List (Turn Class)) : Type 0 where
  pub begun : IsBegun names main turns
  pub closed : map (λ turn. turn.entry) turns ≡ entries_of names main turns
