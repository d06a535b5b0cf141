-- Which frame is the topmost one is the same when roots are read.
use Rattle.std.proofs.Common.{◌≡◌, refl, ℕ, List, [], ◌∷◌, map}
use Rattle.cb_frames.specs.Tops.{topmost}
use Rattle.cb_heap.specs.Reading.{read_frame, read_roots}
use Rattle.cb_plain.specs.State.{Frame, Initialising, OfMethod, Roots}

top_in : (index : ℕ → ℕ) (frames : List Frame) → topmost (map (read_frame index) frames) ≡ topmost frames
top_in index [] = refl
top_in index (OfMethod frame ∷ below) = refl
top_in index (Initialising class place ∷ below) = refl

pub top_read : (index : ℕ → ℕ) (held : Roots) → topmost (read_roots index held).frames ≡ topmost held.frames
top_read index held = top_in index held.frames
