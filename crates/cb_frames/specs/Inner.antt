-- Frames as they lie in one list of slots, the lowest first: each has its local variables, its stack with the topmost value last, and free
-- slots, which may hold anything.
use Rattle.std.specs.Prelude.{◌≡◌, pos, ℕ, ◌+◌, ◌*◌, ◌-◌, ◌^◌, ◌<◌, ◌≤◌, List, [], ◌∷◌, ◌++◌, drop, length, nat_le, replicate, reverse, slice_range, take, if◌then◌else◌}
use Rattle.cb_plain.specs.declared.value.Value.{Value}
use Rattle.cb_plain.specs.declared.value.Value.TheVariants as values
use Rattle.cb_plain.specs.Depth.{slots_each}
use Rattle.cb_plain.specs.State.{Frame, Initialising, OfMethod}
use Rattle.cb_frames.specs.declared.standing.Standing.{Standing}
use Rattle.cb_frames.specs.declared.standing.What.{What}
use Rattle.cb_frames.specs.declared.standing.What.TheVariants as whats

abbrev pub blank : Value
blank = values.Int (pos 0)

abbrev pub blanks : ℕ → List Value
blanks count = replicate count blank

-- a frame that stands there
abbrev pub frame_as : What → List Value → Standing → Frame
frame_as whats.Method slots at =
    OfMethod (record { method = at.number; pc = at.place; slots = at.end - at.base; locals = slice_range slots at.base at.floor; stack = reverse (slice_range slots at.floor at.next) })
frame_as whats.Class slots at = Initialising at.number at.place

-- the frames that stand on one another, the topmost first. What lies below the lowest is no frame
abbrev pub frames_in : List Value → Standing → List Standing → List Frame
frames_in slots top [] = []
frames_in slots top (below ∷ rest) = frame_as top.what slots top ∷ frames_in slots below rest

-- a frame begins where the one below it ends
pub record IsPlaced (from : ℕ) (at : Standing) : Type 0 where
  pub begins : at.base ≡ from
  pub locals : at.base ≤ at.floor
  pub stack : at.floor ≤ at.next
  pub room : at.next ≤ at.end
  pub empty : at.what ≡ whats.Class → at.end ≡ at.base

abbrev pub AreStacked : Standing → List Standing → Type 0
AreStacked top [] = (top.next ≡ 0) × (top.end ≡ 0)
AreStacked top (below ∷ rest) = IsPlaced below.end top × AreStacked below rest

-- frames that lie in so many slots
pub record AreLaid (limit slots : ℕ) (top : Standing) (below : List Standing) (free : ℕ) : Type 0 where
  pub few : limit < 2 ^ 32
  pub count : length below ≡ limit
  pub size : slots ≡ slots_each * limit
  pub within : free ≤ length below
  pub inside : top.end ≤ slots
  pub stacked : AreStacked top (drop free below)

-- where the used slots end in the frame that a slot belongs to
abbrev pub used_to : Standing → List Standing → ℕ → ℕ
used_to top [] slot = 0
used_to top (below ∷ rest) slot = if nat_le top.base slot then top.next else used_to below rest slot

-- the same slots with the int 0 from one place to another
abbrev pub wiped : List Value → ℕ → ℕ → List Value
wiped slots from to = take from slots ++ (blanks (to - from) ++ drop to slots)

-- the same slots with others in place of those from a place on
abbrev pub pasted : List Value → ℕ → List Value → List Value
pasted slots at others = take at slots ++ (others ++ drop (at + length others) slots)
