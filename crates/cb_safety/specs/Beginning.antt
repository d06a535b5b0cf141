-- With what a method begins (JVMS §4.10.1.6).
use Rattle.std.specs.Prelude.{◌≡◌, ◌<◌, ℕ, Some, length}
use Rattle.cb_link.specs.Program.{Linked}
use Rattle.cb_verify.specs.Expansion.{start}
use Rattle.cb_verify.specs.Frames.{Frame}
use Rattle.cb_verify.specs.Within.{Within, within}
use Rattle.cb_safety.specs.Flows.{Arrives}

-- code has an instruction at least, since its bytes aren't none (JVMS §4.7.3, code_length)
abbrev pub HasCode : Linked → Type 0
HasCode program = (number : ℕ) → (method : Within) → within program number ≡ Some method → 0 < length method.body.code

-- the frame with which a method begins is there, and comes to its first instruction
pub record Begins (program : Linked) (number : ℕ) (method : Within) : Type 0 where
  pub frame : Frame
  pub starts : start method ≡ Some frame
  pub arrives : Arrives program number frame 0
