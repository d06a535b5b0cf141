-- Frames, with how many there may be.
use Rattle.std.specs.Prelude.{ℕ, List}
use Rattle.cb_plain.specs.State.{Frame}
use Rattle.cb_frames.specs.Tops.{changed_in}

pub record Held : Type 0 where
  pub limit : ℕ
  pub frames : List Frame

abbrev pub holding : Held → List Frame → Held
holding held frames = record { limit = held.limit; frames = frames }

abbrev pub with_change : Held → (Frame → Frame) → Held
with_change held change = holding held (changed_in change held.frames)

abbrev pub held_of : ℕ → List Frame → Held
held_of limit frames = record { limit = limit; frames = frames }
