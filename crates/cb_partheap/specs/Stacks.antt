-- Stacks of places with room that was made before.
use Rattle.std.specs.Prelude.{ℕ, List, ◌∷◌}

-- the places, the last that was put there in front, and how many there may be
pub record Stacked : Type 0 where
  pub places : List ℕ
  pub room : ℕ

abbrev pub pushed : ℕ → Stacked → Stacked
pushed at stack = record { places = at ∷ stack.places; room = stack.room }
