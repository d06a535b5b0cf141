-- What a program has to say of the initialisers of its classes (JVMS §5.5, §2.9).
use Rattle.std.specs.Prelude.{◌≡◌, ◌+◌, ℕ, [], Some, None}
use Rattle.cb_classfile.specs.declared.body.Body.{Body}
use Rattle.cb_link.specs.Calls.{initialiser}
use Rattle.cb_link.specs.Program.{Linked}
use Rattle.cb_machine.specs.Machine.{body_of}
use Rattle.cb_plain.specs.Depth.{locals_of}
use Rattle.cb_plain.specs.State.{MethodFrame}
use Rattle.cb_safety.specs.Frames.{Stands, result_at}
use Rattle.cb_safety.specs.Kinds.{Kinds}

-- the frame of a method without arguments at its entry
abbrev pub entry_frame : ℕ → Body → MethodFrame
entry_frame method body =
    record { method = method; pc = 0; slots = body.max_locals + body.max_stack; locals = locals_of body.max_locals []; stack = [] }

-- the initialiser of a class has code, takes nothing and gives nothing (§2.9): its first instruction may be executed
pub record IsInitialiser (program : Linked) (method : ℕ) : Type 0 where
  pub body : Body
  pub is : body_of program method ≡ Some body
  pub gives : result_at program method ≡ None
  pub stands : (kinds : Kinds) → Stands program kinds (entry_frame method body)

-- those of a program's classes are such
abbrev pub HasInitialisers : Linked → Type 0
HasInitialisers program = (class method : ℕ) → initialiser program.classes class ≡ Some method → IsInitialiser program method
