-- Frames of a machine, by the frames of the verifier (JVMS §4.10.1.4).
use Rattle.std.specs.Prelude.{◌≡◌, ◌<◌, ◌+◌, ℕ, true, List, [], ◌∷◌, ◌++◌, Option, Some, None, length, option_and_then, slice_get}
use Rattle.cb_insn.specs.declared.insn.Insn.{Insn}
use Rattle.cb_kinds.specs.declared.basic.Basic.{Basic}
use Rattle.cb_link.specs.Named.{code_at, insn_in}
use Rattle.cb_link.specs.Program.{Linked}
use Rattle.cb_plain.specs.State.{Frame, Initialising, MethodFrame, OfMethod}
use Rattle.cb_verify.specs.declared.verification_type.VerificationType.{VerificationType}
use Rattle.cb_verify.specs.Framed.{frame_in, typing_of}
use Rattle.cb_verify.specs.Frames as typed
use Rattle.cb_verify.specs.Leaving.{left}
use Rattle.cb_verify.specs.Typed.{falls}
use Rattle.cb_verify.specs.Types.{type_of}
use Rattle.cb_verify.specs.Within.{Within, within}
use Rattle.cb_safety.specs.Held.{HaveTypes, IsStack}
use Rattle.cb_safety.specs.Kinds.{AreKnown, Kinds}

-- the verifier's frame before the instruction at the place of a method's frame, and the method
pub record Before (program : Linked) (frame : MethodFrame) : Type 0 where
  pub method : Within
  pub within : within program frame.method ≡ Some method
  pub types : typed.Frame
  pub before : frame_in (typing_of program) frame.method frame.pc ≡ Some types
  pub slots : frame.slots ≡ method.body.max_locals + method.body.max_stack

-- a handler may go on with the local variables: the stack is lost, and of it nothing counts but that what it names is there
pub record IsCovered (program : Linked) (kinds : Kinds) (frame : MethodFrame) : Type 0 where
  pub at : Before program frame
  pub locals : HaveTypes at.method kinds at.types.locals frame.locals
  pub stack : AreKnown kinds frame.stack

-- the instruction may be executed
pub record Stands (program : Linked) (kinds : Kinds) (frame : MethodFrame) : Type 0 where
  pub at : Before program frame
  pub locals : HaveTypes at.method kinds at.types.locals frame.locals
  pub stack : IsStack at.method kinds at.types.stack frame.stack

-- the instruction was a call, of which the arguments are taken, and with its result the frame is what the instruction leaves
abbrev pub result_types : Option Basic → List VerificationType
result_types None = []
result_types (Some basic) = type_of basic ∷ []

pub record Waits (program : Linked) (kinds : Kinds) (result : Option Basic) (frame : MethodFrame) : Type 0 where
  pub at : Before program frame
  pub insn : Insn
  pub there : insn_in (code_at program frame.method) frame.pc ≡ Some insn
  pub after : typed.Frame
  pub leaves : left at.method frame.pc insn at.types ≡ Some after
  pub falls : falls insn ≡ true
  pub rest : List VerificationType
  pub answered : after.stack ≡ result_types result ++ rest
  pub before : HaveTypes at.method kinds at.types.locals frame.locals
  pub locals : HaveTypes at.method kinds after.locals frame.locals
  pub stack : IsStack at.method kinds rest frame.stack

-- frames that stand one upon the other: below that of a method waits a call with its result, or the initialisation of a class, whose
-- frame has stood in the way of the instruction below it, or nothing where the method is `main`
abbrev pub result_at : Linked → ℕ → Option Basic
result_at program method = option_and_then (λ linked. linked.result) (slice_get program.methods method)

mutual
  pub data AreBelow (program : Linked) (kinds : Kinds) : Option Basic → List Frame → Type 0 where
    Nothing : AreBelow program kinds None []
    ACall : (result : Option Basic) → (frame : MethodFrame) → (below : List Frame) → Waits program kinds result frame →
        AreBelow program kinds (result_at program frame.method) below → AreBelow program kinds result (OfMethod frame ∷ below)
    AnInitialiser : (class place : ℕ) → (below : List Frame) → class < length program.classes → AreStanding program kinds below →
        AreBelow program kinds None (Initialising class place ∷ below)

  pub data AreStanding (program : Linked) (kinds : Kinds) : List Frame → Type 0 where
    NotYet : AreStanding program kinds []
    AMethod : (frame : MethodFrame) → (below : List Frame) → Stands program kinds frame → AreBelow program kinds (result_at program frame.method) below →
        AreStanding program kinds (OfMethod frame ∷ below)
    AnInitialisation : (class place : ℕ) → (below : List Frame) → class < length program.classes → AreStanding program kinds below →
        AreStanding program kinds (Initialising class place ∷ below)

-- while an exception is pending the topmost frame need only be covered
pub data AreCovered (program : Linked) (kinds : Kinds) : List Frame → Type 0 where
  Nothing : AreCovered program kinds []
  AMethod : (frame : MethodFrame) → (below : List Frame) → IsCovered program kinds frame → AreBelow program kinds (result_at program frame.method) below →
      AreCovered program kinds (OfMethod frame ∷ below)
  AnInitialisation : (class place : ℕ) → (below : List Frame) → class < length program.classes → AreStanding program kinds below →
      AreCovered program kinds (Initialising class place ∷ below)
