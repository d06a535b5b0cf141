-- Room in the frames of methods, by what their code says (JVMS §2.6.1, §2.6.2, §4.7.3).
use Rattle.std.specs.Prelude.{◌≡◌, ◌≤◌, ◌+◌, ℕ, true, List, Some, length}
use Rattle.std.specs.List.{Contains}
use Rattle.cb_classfile.specs.declared.handler.Handler.{Handler}
use Rattle.cb_link.specs.Program.{Linked}
use Rattle.cb_machine.specs.Values.{category_of_value}
use Rattle.cb_plain.specs.State.{MethodFrame}
use Rattle.cb_plain.specs.declared.value.Value.{Value}
use Rattle.cb_shapes.specs.Shuffles.{shuffled}
use Rattle.cb_shapes.specs.declared.shuffle.Shuffle.{Shuffle}
use Rattle.cb_verify.specs.Typed.{covers}
use Rattle.cb_verify.specs.Within.{Within, within}

-- a frame has as many local variables as the code of its method says, and beside them and the values on its stack slots for so many
-- values more
pub record HasRoom (program : Linked) (frame : MethodFrame) (more : ℕ) : Type 0 where
  pub method : Within
  pub within : within program frame.method ≡ Some method
  pub locals : length frame.locals ≡ method.body.max_locals
  pub slots : frame.slots ≡ method.body.max_locals + method.body.max_stack
  pub room : length frame.locals + length frame.stack + more ≤ frame.slots

-- and a frame whose stack is lost has room for an exception where a handler covers its place
pub record MayCatch (program : Linked) (frame : MethodFrame) : Type 0 where
  pub method : Within
  pub within : within program frame.method ≡ Some method
  pub locals : length frame.locals ≡ method.body.max_locals
  pub slots : frame.slots ≡ method.body.max_locals + method.body.max_stack
  pub room : (handler : Handler) → Contains method.body.handlers handler → covers frame.pc handler ≡ true → length frame.locals + 1 ≤ frame.slots

-- the stack of a frame is shuffled, and there are slots for what comes of it
pub record ShufflesWithin (frame : MethodFrame) (shuffle : Shuffle) : Type 0 where
  pub stack : List Value
  pub shuffled : shuffled category_of_value shuffle frame.stack ≡ Some stack
  pub room : length frame.locals + length stack ≤ frame.slots
