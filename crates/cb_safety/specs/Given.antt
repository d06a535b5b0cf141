-- Which method a call runs, on which arguments, and what these are where that is a native (JVMS §6.5 invokestatic to invokeinterface).
use Rattle.std.specs.Prelude.{◌≡◌, ℕ, suc, List, ◌∷◌, length, Option, Some, option_and_then, slice_get}
use Rattle.cb_hierarchy.specs.declared.selected.Selected.TheVariants as chosen
use Rattle.cb_kinds.specs.Texts.{number_of}
use Rattle.cb_kinds.specs.declared.basic.Basic.TheVariants as basics
use Rattle.cb_library.specs.declared.native.Native.{Native}
use Rattle.cb_link.specs.Calls.{select}
use Rattle.cb_link.specs.Having.{parameters_at}
use Rattle.cb_link.specs.Numbers.{class_number}
use Rattle.cb_link.specs.Program.{Linked}
use Rattle.cb_link.specs.Special.{class_declaring, holder_named, special}
use Rattle.cb_machine.specs.Arrays.{element_of}
use Rattle.cb_machine.specs.Calling.{implementing}
use Rattle.cb_plain.specs.State.{MethodFrame, Object, Reference, State}
use Rattle.cb_plain.specs.Updates.{object_in}
use Rattle.cb_plain.specs.declared.value.Value.{Value}
use Rattle.cb_plain.specs.declared.value.Value.TheVariants as values
use Rattle.cb_shapes.specs.declared.action.Action.{Action}
use Rattle.cb_shapes.specs.declared.action.Action.TheVariants as actions
use Rattle.cb_verify.specs.Within.{Within, kind_of_string}
use Rattle.cb_safety.specs.Held.{HaveTypes}
use Rattle.cb_safety.specs.Kinds.{Kinds, Refers, kinds_of}
use Rattle.cb_safety.specs.Signatures.{takes_of}

-- a method's instruction that names a method runs this one: the same, or what is selected, maybe on an object that is there
pub data Runs (program : Linked) (objects : List (Option Object)) (caller named method : ℕ) : Action → Type 0 where
  Statically : (index : ℕ) → named ≡ method → Runs program objects caller named method (actions.InvokeStatic index)
  Specially : (index : ℕ)
      → special program named (class_declaring program caller) (option_and_then (class_number program.classes) (holder_named program caller index)) ≡ chosen.Method method
      → Runs program objects caller named method (actions.InvokeSpecial index)
  Virtually : (index serial : ℕ) → (object : Object) → object_in objects serial ≡ Some object → select program object.kind named ≡ chosen.Method method
      → Runs program objects caller named method (actions.InvokeVirtual index)
  ByInterface : (index count serial : ℕ) → (object : Object) → object_in objects serial ≡ Some object
      → implementing program named (option_and_then (number_of program.kinds) (holder_named program caller index)) object.kind ≡ chosen.Method method
      → Runs program objects caller named method (actions.InvokeInterface index count)

-- and runs it on these arguments: as many as the parameters of the one that is named, behind the object on which it is called, if any
pub data RunsOn (program : Linked) (objects : List (Option Object)) (caller named method : ℕ) (arguments : List Value) : Action → Type 0 where
  Statically : (index : ℕ) → named ≡ method → length arguments ≡ length (parameters_at program named)
      → RunsOn program objects caller named method arguments (actions.InvokeStatic index)
  Specially : (index place : ℕ) → (object : Object) → (others : List Value) → arguments ≡ values.Ref (suc place) ∷ others
      → length others ≡ length (parameters_at program named) → object_in objects (suc place) ≡ Some object
      → special program named (class_declaring program caller) (option_and_then (class_number program.classes) (holder_named program caller index)) ≡ chosen.Method method
      → RunsOn program objects caller named method arguments (actions.InvokeSpecial index)
  Virtually : (index place : ℕ) → (object : Object) → (others : List Value) → arguments ≡ values.Ref (suc place) ∷ others
      → length others ≡ length (parameters_at program named) → object_in objects (suc place) ≡ Some object
      → select program object.kind named ≡ chosen.Method method
      → RunsOn program objects caller named method arguments (actions.InvokeVirtual index)
  ByInterface : (index count place : ℕ) → (object : Object) → (others : List Value) → arguments ≡ values.Ref (suc place) ∷ others
      → length others ≡ length (parameters_at program named) → object_in objects (suc place) ≡ Some object
      → implementing program named (option_and_then (number_of program.kinds) (holder_named program caller index)) object.kind ≡ chosen.Method method
      → RunsOn program objects caller named method arguments (actions.InvokeInterface index count)

-- arguments are of the types that a native takes, as a method of the program has them
pub record AreTaken (program : Linked) (kinds : Kinds) (native : Native) (arguments : List Value) : Type 0 where
  pub method : Within
  pub own : method.program ≡ program
  pub have : HaveTypes method kinds (takes_of program native) arguments

-- the topmost value is null or a string, whose array is of chars, where it has one
pub record StringOn (program : Linked) (state : State) (frame : MethodFrame) : Type 0 where
  pub serial : ℕ
  pub on : slice_get frame.stack 0 ≡ Some (values.Ref serial)
  pub refers : Refers program (kinds_of state.objects) kind_of_string serial
  pub chars : (string array : Object) (place : ℕ) → object_in state.objects serial ≡ Some string → slice_get string.contents 0 ≡ Some (Reference place)
      → object_in state.objects place ≡ Some array → element_of program array.kind ≡ Some basics.Char
