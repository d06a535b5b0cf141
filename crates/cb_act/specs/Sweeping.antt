-- Which step asks for a collection of all objects that nothing reaches: a call of `System.gc` (Java SE 8 API, java.lang.System).
use Rattle.std.specs.Prelude.{ℕ, Bool, true, false, List, [], ◌∷◌, Option, Some, None, option_and_then, slice_get, ◌&&◌, ◌==◌, if◌then◌else◌}
use Rattle.cb_classfile.specs.declared.body.Body.{Body}
use Rattle.cb_classfile.specs.declared.method.Method.{Method}
use Rattle.cb_library.specs.declared.native.Native.{Native}
use Rattle.cb_library.specs.declared.native.Native.TheVariants as natives
use Rattle.cb_link.specs.Named.{code_at, insn_in, named}
use Rattle.cb_link.specs.Numbers.{Numbered}
use Rattle.cb_link.specs.Program.{Linked}
use Rattle.cb_link.specs.declared.named.Named.{Named}
use Rattle.cb_link.specs.declared.named.Named.TheVariants as meanings
use Rattle.cb_machine.specs.Machine.{class_declaring, method_numbered}
use Rattle.cb_machine.specs.Natives.{native_of}
use Rattle.cb_plain.specs.State.{Frame, Initialising, OfMethod, Roots, State}
use Rattle.cb_plain.specs.declared.class_state.ClassState.{ClassState}
use Rattle.cb_plain.specs.declared.class_state.ClassState.TheVariants.{Busy, Done, Failed, Untouched}
use Rattle.cb_shapes.specs.Shapes.{action_of}
use Rattle.cb_shapes.specs.declared.action.Action.{Action}
use Rattle.cb_shapes.specs.declared.action.Action.TheVariants as actions

-- the method is that native, and has no code
abbrev pub is_gc : Option Native → Bool
is_gc (Some natives.SystemGc) = true
is_gc other = false

abbrev pub gc_by_body : Linked → ℕ → Option Body → Bool
gc_by_body program method None = is_gc (native_of program method)
gc_by_body program method (Some body) = false

abbrev pub gc_by_method : Linked → ℕ → Option (Numbered Method) → Bool
gc_by_method program method None = false
gc_by_method program method (Some numbered) = gc_by_body program method numbered.member.body

-- its class may be used: the initialisation is under way or done (JVMS §5.5)
abbrev pub is_usable : Option ClassState → Bool
is_usable None = false
is_usable (Some Untouched) = false
is_usable (Some Failed) = false
is_usable (Some Busy) = true
is_usable (Some Done) = true

abbrev pub gc_by_class : Linked → Roots → ℕ → Option ℕ → Bool
gc_by_class program roots method None = false
gc_by_class program roots method (Some class) = is_usable (slice_get roots.classes class) && gc_by_method program method (method_numbered program method)

-- an invokestatic that names it (JVMS §6.5 invokestatic) is the instruction at which the topmost frame stands, and no exception is pending
abbrev pub gc_by_name : Linked → Roots → Named → Bool
gc_by_name program roots (meanings.Method method) = gc_by_class program roots method (class_declaring program method)
gc_by_name program roots other = false

abbrev pub gc_by_action : Linked → Roots → Named → Option Action → Bool
gc_by_action program roots named (Some (actions.InvokeStatic index)) = gc_by_name program roots named
gc_by_action program roots named other = false

abbrev pub gc_by_frames : Linked → Roots → List Frame → Bool
gc_by_frames program roots (OfMethod frame ∷ below) =
    gc_by_action program roots (named program frame.method frame.pc) (option_and_then (λ insn. action_of insn) (insn_in (code_at program frame.method) frame.pc))
gc_by_frames program roots (Initialising class place ∷ below) = false
gc_by_frames program roots [] = false

abbrev pub calls_gc : Linked → State → Bool
calls_gc program state = if state.roots.pending == 0 then gc_by_frames program state.roots state.roots.frames else false
