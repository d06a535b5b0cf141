-- Plans: what a step places, and what it leaves. From a plan follow both the next state and the request for room.
use Rattle.std.specs.Prelude.{ℕ, ◌+◌, ◌*◌, List, [], ◌∷◌, ◌++◌, map, length, replicate, Option, Some, zero, suc}
use Rattle.std.specs.List.{flat_map, fold, range_with_len}
use Rattle.cb_plain.specs.Requests.{add_want}
use Rattle.cb_plain.specs.declared.want.Want.{Want}
use Rattle.cb_plain.specs.State.{Content, Object, Reference, State, words_of}
use Rattle.cb_plain.specs.Updates.{with_objects}

-- objects that are placed one after the other: one with its contents; so many alike, each with so many words that hold the same; and so
-- many arrays, each of so many references to serials that follow one another
pub data Placing : Type 0 where
  One : (site kind : ℕ) → (contents : List Content) → Placing
  Alike : (site kind : ℕ) → (content : Content) → (size count : ℕ) → Placing
  Rows : (site kind first size count : ℕ) → Placing

-- what is placed, in order; the serial of the next object; and the state that is left but for these objects
pub record Plan : Type 0 where
  pub placed : List Placing
  pub next : ℕ
  pub left : State

-- the objects of a placing
abbrev pub object_of : ℕ → ℕ → List Content → Object
object_of site kind contents = record { site = site; kind = kind; contents = contents }

abbrev row : ℕ → ℕ → ℕ → ℕ → ℕ → Object
row site kind first size turn = object_of site kind (map Reference (range_with_len (first + turn * size) size))

abbrev pub objects_of : Placing → List Object
objects_of (One site kind contents) = object_of site kind contents ∷ []
objects_of (Alike site kind content size count) = replicate count (object_of site kind (replicate size content))
objects_of (Rows site kind first size count) = map (row site kind first size) (range_with_len 0 count)

-- the next state
abbrev with_placed : List (Option Object) → Placing → List (Option Object)
with_placed objects placing = objects ++ map Some (objects_of placing)

abbrev pub made : Plan → State
made plan = with_objects plan.left (fold with_placed plan.left.objects plan.placed)

-- what is asked for of a placing: none where it places nothing
abbrev wanted : ℕ → ℕ → ℕ → List Want
wanted site size zero = []
wanted site size (suc count) = record { site = site; words = (count + 1) * words_of size } ∷ []

abbrev pub wants_of : Placing → List Want
wants_of (One site kind contents) = wanted site (length contents) 1
wants_of (Alike site kind content size count) = wanted site size count
wants_of (Rows site kind first size count) = wanted site size count

-- and of a plan
abbrev pub asked : Plan → List Want
asked plan = fold add_want [] (flat_map wants_of plan.placed)

-- a plan that places nothing, and one that places one thing more
abbrev pub leaving : State → Plan
leaving state = record { placed = []; next = length state.objects + 1; left = state }

abbrev pub with_left : Plan → State → Plan
with_left plan state = record { placed = plan.placed; next = plan.next; left = state }

abbrev pub with_one : Plan → ℕ → ℕ → List Content → Plan
with_one plan site kind contents = record { placed = plan.placed ++ One site kind contents ∷ []; next = plan.next + 1; left = plan.left }

abbrev pub with_alike : Plan → ℕ → ℕ → Content → ℕ → ℕ → Plan
with_alike plan site kind content size count =
    record { placed = plan.placed ++ Alike site kind content size count ∷ []; next = plan.next + count; left = plan.left }

abbrev pub with_rows : Plan → ℕ → ℕ → ℕ → ℕ → ℕ → Plan
with_rows plan site kind first size count =
    record { placed = plan.placed ++ Rows site kind first size count ∷ []; next = plan.next + count; left = plan.left }
