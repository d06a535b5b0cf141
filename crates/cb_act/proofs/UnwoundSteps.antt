-- What a pending exception leaves is what the step leaves.
use Rattle.std.proofs.Common.{◌≡◌, refl, List, ◌∷◌, Some, None}
use Rattle.std.specs.List.{find}
use Rattle.cb_classfile.specs.declared.handler.Handler.{Handler}
use Rattle.cb_frames.specs.Tops.{left}
use Rattle.cb_link.specs.Named.{handlers_at}
use Rattle.cb_machine.specs.Machine.{Machine, class_declaring}
use Rattle.cb_machine.specs.Plans.{leaving}
use Rattle.cb_machine.specs.Unwinding.{takes, unwinding}
use Rattle.cb_plain.specs.State.{Frame, MethodFrame, Object, OfMethod, State}
use Rattle.cb_plain.specs.Updates.{object_at, with_roots}
use Rattle.cb_act.specs.Unwound.{caught}

module _ (machine : Machine) (state : State) (frame : MethodFrame) (below : List Frame) (object : Object) (frames : state.roots.frames ≡ OfMethod frame ∷ below)
    (there : object_at state state.roots.pending ≡ Some object) where
  -- no handler takes it, and the frame ends
  pub passes_so : find (takes machine.program (class_declaring machine.program frame.method) frame.pc object.kind) (handlers_at machine.program frame.method) ≡ None
      → unwinding machine state ≡ Some (leaving (with_roots state (left state.roots)))
  passes_so none = rw (there, frames, none) refl

  -- or the first that does goes on
  pub caught_so : (handler : Handler)
      → find (takes machine.program (class_declaring machine.program frame.method) frame.pc object.kind) (handlers_at machine.program frame.method) ≡ Some handler
      → unwinding machine state ≡ Some (leaving (with_roots state (caught handler.handler state.roots)))
  caught_so handler is = rw (there, frames, is) refl
