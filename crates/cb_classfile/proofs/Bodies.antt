-- Bodies of methods.
use Rattle.std.proofs.Common.{◌≡◌, ℕ, List, refl}
use Rattle.cb_insn.specs.declared.insn.Insn.{Insn}
use Rattle.cb_classfile.specs.declared.body.Body.{Body}
use Rattle.cb_classfile.specs.declared.frame_map.MapFrame.{MapFrame}
use Rattle.cb_classfile.specs.declared.handler.Handler.{Handler}

-- a body is its parts
pub body_same : (max_stack max_locals : ℕ) (code : List (ℕ × Insn)) (handlers : List Handler) (frames : List MapFrame) (other : Body) → max_stack ≡ other.max_stack → max_locals ≡ other.max_locals → code ≡ other.code → handlers ≡ other.handlers → frames ≡ other.frames
    → record { max_stack = max_stack; max_locals = max_locals; code = code; handlers = handlers; frames = frames } ≡ other
body_same max_stack max_locals code handlers frames other same_stack same_locals same_code same_handlers same_frames =
    rw (same_stack, same_locals, same_code, same_handlers, same_frames) refl
