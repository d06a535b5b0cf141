-- What a program that is typed says of one instruction, from the frame before it (JVMS §4.10.1).
use Rattle.std.specs.Prelude.{◌≡◌, ◌<◌, ◌⊎◌, ℕ, true, Some, List, [], ◌∷◌}
use Rattle.std.specs.List.{AllByRecursion, Contains}
use Rattle.cb_classfile.specs.declared.handler.Handler.{Handler}
use Rattle.cb_insn.specs.declared.insn.Insn.{Insn}
use Rattle.cb_link.specs.Named.{behind_in, code_at, insn_in}
use Rattle.cb_link.specs.Program.{Linked}
use Rattle.cb_shapes.specs.Targets.{targets_of}
use Rattle.cb_verify.specs.declared.verification_type.VerificationType.TheVariants.{Object}
use Rattle.cb_verify.specs.Framed.{frame_in, typing_of}
use Rattle.cb_verify.specs.Frames.{Frame, frame_goes_to}
use Rattle.cb_verify.specs.Leaving.{left}
use Rattle.cb_verify.specs.Typed.{caught_kind, covers, falls}
use Rattle.cb_verify.specs.Types.{goes_to}
use Rattle.cb_verify.specs.Within.{Within, kind_of_throwable, within}

-- no two instructions of code stand at one place, since each has a byte at least
abbrev pub Rises : List (ℕ × Insn) → Type 0
Rises [] = Unit {0}
Rises (placed ∷ code) = AllByRecursion (λ own. placed.0 < own.0) code × Rises code

abbrev pub CodeRises : Linked → Type 0
CodeRises program = (number : ℕ) → Rises (code_at program number)

-- a frame may come to a place of a method: it is the one before the instruction there, or assignable to it
pub record Arrives (program : Linked) (number : ℕ) (frame : Frame) (place : ℕ) : Type 0 where
  pub there : Frame
  pub before : frame_in (typing_of program) number place ≡ Some there
  pub goes : (frame ≡ there) ⊎ (frame_goes_to program frame there ≡ true)

pub record FallsTo (program : Linked) (number pc : ℕ) (frame : Frame) : Type 0 where
  pub place : ℕ
  pub behind : behind_in (code_at program number) pc ≡ Some place
  pub arrives : Arrives program number frame place

-- a handler takes the local variables with the exception alone on the stack
abbrev pub thrown_into : Frame → ℕ → Frame
thrown_into frame kind = record { locals = frame.locals; stack = Object kind ∷ []; unfinished = frame.unfinished }

pub record Handles (program : Linked) (number : ℕ) (method : Within) (frame : Frame) (handler : Handler) : Type 0 where
  pub kind : ℕ
  pub caught : caught_kind method handler ≡ Some kind
  pub throwable : goes_to program (Object kind) (Object kind_of_throwable) ≡ true
  pub arrives : Arrives program number (thrown_into frame kind) handler.handler

-- the instruction is there and its rule is met, and what it leaves may come to each place to which it goes
pub record Flows (program : Linked) (number pc : ℕ) (frame : Frame) : Type 0 where
  pub method : Within
  pub within : within program number ≡ Some method
  pub insn : Insn
  pub there : insn_in (code_at program number) pc ≡ Some insn
  pub after : Frame
  pub leaves : left method pc insn frame ≡ Some after
  pub targets : (place : ℕ) → Contains (targets_of insn.operand) place → Arrives program number after place
  pub next : falls insn ≡ true → FallsTo program number pc after
  pub handlers : (handler : Handler) → Contains method.body.handlers handler → covers pc handler ≡ true → Handles program number method frame handler
