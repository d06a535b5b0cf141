-- Which step asks for the input: a call of a native that reads (Java SE 8 API, java.io.InputStream).
use Rattle.std.specs.Prelude.{ℕ, Bool, true, false, List, [], ◌∷◌, ◌++◌, reverse, Option, Some, None, option_and_then, slice_get, ◌&&◌, ◌==◌, if◌then◌else◌}
use Rattle.cb_classfile.specs.declared.body.Body.{Body}
use Rattle.cb_classfile.specs.declared.method.Method.{Method}
use Rattle.cb_hierarchy.specs.declared.selected.Selected.{Selected}
use Rattle.cb_hierarchy.specs.declared.selected.Selected.TheVariants as chosen
use Rattle.cb_kinds.specs.Texts.{number_of}
use Rattle.cb_library.specs.declared.native.Native.{Native}
use Rattle.cb_library.specs.declared.native.Native.TheVariants as natives
use Rattle.cb_link.specs.Calls.{select}
use Rattle.cb_link.specs.Named.{code_at, insn_in, named}
use Rattle.cb_link.specs.Numbers.{Numbered, class_number}
use Rattle.cb_link.specs.Program.{Linked}
use Rattle.cb_link.specs.Special.{holder_named, special}
use Rattle.cb_link.specs.declared.named.Named.{Named}
use Rattle.cb_link.specs.declared.named.Named.TheVariants as meanings
use Rattle.cb_machine.specs.Calling.{asked_sorts, implementing, is_private_method}
use Rattle.cb_machine.specs.Machine.{class_declaring, method_numbered}
use Rattle.cb_machine.specs.Natives.{native_of}
use Rattle.cb_machine.specs.Standing.{taken}
use Rattle.cb_plain.specs.declared.class_state.ClassState.{ClassState}
use Rattle.cb_plain.specs.declared.class_state.ClassState.TheVariants.{Busy, Done, Failed, Untouched}
use Rattle.cb_plain.specs.declared.value.Value.{Value}
use Rattle.cb_plain.specs.declared.value.Value.TheVariants.{Ref}
use Rattle.cb_plain.specs.State.{Frame, Initialising, MethodFrame, Object, OfMethod, State}
use Rattle.cb_plain.specs.Updates.{object_at}
use Rattle.cb_shapes.specs.Shapes.{action_of}
use Rattle.cb_shapes.specs.declared.action.Action.{Action}
use Rattle.cb_shapes.specs.declared.action.Action.TheVariants as actions
use Rattle.cb_shapes.specs.declared.sort.Sort.TheVariants as sorts

-- the method is such a native, and has no code
abbrev pub is_reader : Option Native → Bool
is_reader (Some natives.ReadByte) = true
is_reader (Some natives.ReadRange) = true
is_reader other = false

abbrev pub reads_by_body : Linked → ℕ → Option Body → Bool
reads_by_body program method None = is_reader (native_of program method)
reads_by_body program method (Some body) = false

abbrev pub reads_by_method : Linked → ℕ → Option (Numbered Method) → Bool
reads_by_method program method None = false
reads_by_method program method (Some numbered) = reads_by_body program method numbered.member.body

abbrev pub reads_selected : Linked → Selected → Bool
reads_selected program (chosen.Method method) = reads_by_method program method (method_numbered program method)
reads_selected program other = false

-- an invokestatic that names it (JVMS §6.5 invokestatic), whose class may be used: its initialisation is under way or done (JVMS §5.5)
abbrev pub is_ready : Option ClassState → Bool
is_ready None = false
is_ready (Some Untouched) = false
is_ready (Some Failed) = false
is_ready (Some Busy) = true
is_ready (Some Done) = true

abbrev pub reads_by_class : Linked → State → ℕ → Option ℕ → Bool
reads_by_class program state method None = false
reads_by_class program state method (Some class) = is_ready (slice_get state.roots.classes class) && reads_selected program (chosen.Method method)

abbrev pub reads_static : Linked → State → Named → Bool
reads_static program state (meanings.Method method) = reads_by_class program state method (class_declaring program method)
reads_static program state other = false

-- a call that selects it for its receiver, which is there
abbrev pub reads_on : Linked → (ℕ → Selected) → Option Object → Bool
reads_on program choose None = false
reads_on program choose (Some object) = reads_selected program (choose object.kind)

abbrev pub reads_received : Linked → State → (ℕ → Selected) → List Value → Bool
reads_received program state choose (Ref serial ∷ arguments) = reads_on program choose (object_at state serial)
reads_received program state choose other = false

abbrev pub reads_taken : Linked → State → (ℕ → Selected) → Option (List Value × List Value) → Bool
reads_taken program state choose None = false
reads_taken program state choose (Some taken) = reads_received program state choose (reverse taken.0)

abbrev pub reads_called : Linked → State → MethodFrame → (ℕ → Selected) → ℕ → Bool
reads_called program state frame choose method =
    reads_taken program state choose (taken (asked_sorts program method ++ sorts.Reference ∷ []) frame.stack)

-- invokevirtual, invokespecial and invokeinterface (JVMS §6.5)
abbrev pub reads_virtual : Linked → State → MethodFrame → Named → Bool
reads_virtual program state frame (meanings.Method method) = reads_called program state frame (λ kind. select program kind method) method
reads_virtual program state frame other = false

abbrev pub reads_special : Linked → State → MethodFrame → ℕ → Named → Bool
reads_special program state frame index (meanings.Method method) =
    reads_called program state frame
    (λ kind. special program method (class_declaring program frame.method) (option_and_then (class_number program.classes) (holder_named program frame.method index))) method
reads_special program state frame index other = false

abbrev pub reads_interface : Linked → State → MethodFrame → ℕ → Named → Bool
reads_interface program state frame index (meanings.Method method) =
    if is_private_method program method then false
    else reads_called program state frame (implementing program method (option_and_then (number_of program.kinds) (holder_named program frame.method index))) method
reads_interface program state frame index other = false

-- at the instruction at which the topmost frame stands, while no exception is pending
abbrev pub reads_by_action : Linked → State → MethodFrame → Named → Option Action → Bool
reads_by_action program state frame named (Some (actions.InvokeStatic index)) = reads_static program state named
reads_by_action program state frame named (Some (actions.InvokeVirtual index)) = reads_virtual program state frame named
reads_by_action program state frame named (Some (actions.InvokeSpecial index)) = reads_special program state frame index named
reads_by_action program state frame named (Some (actions.InvokeInterface index count)) = reads_interface program state frame index named
reads_by_action program state frame named other = false

abbrev pub reads_by_frames : Linked → State → List Frame → Bool
reads_by_frames program state (OfMethod frame ∷ below) =
    reads_by_action program state frame (named program frame.method frame.pc)
    (option_and_then (λ insn. action_of insn) (insn_in (code_at program frame.method) frame.pc))
reads_by_frames program state (Initialising class place ∷ below) = false
reads_by_frames program state [] = false

abbrev pub asks_input : Linked → State → Bool
asks_input program state = if state.roots.pending == 0 then reads_by_frames program state state.roots.frames else false
