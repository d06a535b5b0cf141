-- The frames before the instructions of a program that is typed.
use Rattle.std.specs.Prelude.{◌≡◌, ◌<◌, ◌≤◌, ℕ, Bool, false, List, [], ◌∷◌, map, Option, Some, None, is_some, length, option_and_then, option_map, slice_get, ◌==◌}
use Rattle.std.specs.List.{find, flat_map, list_any, range_with_len}
use Rattle.cb_link.specs.Program.{Linked}
use Rattle.cb_verify.specs.Frames.{Frame}
use Rattle.cb_verify.specs.Typed.{Placed, placed_in}
use Rattle.cb_verify.specs.Within.{Within, within}

-- those of a method by their places, in the order of its instructions. It has none before an instruction that can't be reached
abbrev pub framed_at : ℕ → Option Frame → List (ℕ × Frame)
framed_at place None = []
framed_at place (Some frame) = (place, frame) ∷ []

abbrev pub framed : List Placed → List (ℕ × Frame)
framed placed = flat_map (λ own. framed_at own.place own.before) placed

abbrev pub frames_of : Within → List (ℕ × Frame)
frames_of method = framed (placed_in method)

-- those of all methods by their numbers: none has one without code
abbrev pub frames_in : Option Within → List (ℕ × Frame)
frames_in None = []
frames_in (Some method) = frames_of method

abbrev pub typing_of : Linked → List (List (ℕ × Frame))
typing_of program = map (λ number. frames_in (within program number)) (range_with_len 0 (length program.methods))

-- the one at a place of a method
abbrev pub frame_at_place : ℕ → List (ℕ × Frame) → Option Frame
frame_at_place pc frames = option_map (λ entry. entry.1) (find (λ entry. entry.0 == pc) frames)

abbrev pub frame_in : List (List (ℕ × Frame)) → ℕ → ℕ → Option Frame
frame_in typing method pc = option_and_then (frame_at_place pc) (slice_get typing method)

-- whether an instruction stands at a place of a method: none does where it has no code
abbrev pub stands_at : Option Within → ℕ → Bool
stands_at None pc = false
stands_at (Some method) pc = list_any (λ placed. placed.0 == pc) method.body.code

-- there is a frame just where an instruction of a method of the program stands
pub record FramesStand (program : Linked) (typing : List (List (ℕ × Frame))) : Type 0 where
  pub each : (method pc : ℕ) → method < length program.methods → is_some (frame_in typing method pc) ≡ stands_at (within program method) pc
  pub none : (method pc : ℕ) → length program.methods ≤ method → frame_in typing method pc ≡ None
