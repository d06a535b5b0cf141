-- What is on the stack before an instruction that looks at an object, and the words that it reads or writes there (JVMS §6.5).
use Rattle.std.specs.Prelude.{◌≡◌, ◌<◌, ◌≤◌, ℕ, ℤ, Bool, true, false, List, Option, Some, length, slice_get}
use Rattle.cb_kinds.specs.declared.basic.Basic.{Basic}
use Rattle.cb_link.specs.Program.{Linked}
use Rattle.cb_machine.specs.Arrays.{element_of}
use Rattle.cb_machine.specs.Performing.{most_elements}
use Rattle.cb_machine.specs.Standing.{same_sort}
use Rattle.cb_machine.specs.Values.{content_of, kept_value, sort_of, sort_of_basic}
use Rattle.cb_plain.specs.State.{MethodFrame, Object, State}
use Rattle.cb_plain.specs.Updates.{object_in}
use Rattle.cb_plain.specs.declared.value.Value.{Value}
use Rattle.cb_plain.specs.declared.value.Value.TheVariants as values
use Rattle.cb_shapes.specs.declared.action.Action.{Action}
use Rattle.cb_shapes.specs.declared.action.Action.TheVariants as actions
use Rattle.cb_shapes.specs.declared.sort.Sort.{Sort}
use Rattle.cb_safety.specs.Heap.{Holds}
use Rattle.cb_safety.specs.Held.{HasBasic, HasContent}
use Rattle.cb_safety.specs.Kinds.{IsKnown, kinds_of}
use Rattle.cb_safety.specs.States.{HasStatic}

-- a reference is null, or the object is there and has a word of a type at a place
pub data HasWord (program : Linked) (objects : List (Option Object)) (place : ℕ) (basic : Basic) : ℕ → Type 0 where
  OfNull : HasWord program objects place basic 0
  OfObject : (serial : ℕ) → (object : Object) → object_in objects serial ≡ Some object → Holds program (kinds_of objects) object.contents place basic →
      HasWord program objects place basic serial

-- getfield: of the topmost value, a word of the field's type is read
pub record ReadsField (program : Linked) (state : State) (frame : MethodFrame) (slot : ℕ) (basic : Basic) : Type 0 where
  pub serial : ℕ
  pub object : slice_get frame.stack 0 ≡ Some (values.Ref serial)
  pub word : HasWord program state.objects slot basic serial

-- putfield: the topmost value is of the field's type, and of the one below it a word of that type is written
pub record WritesField (program : Linked) (state : State) (frame : MethodFrame) (slot : ℕ) (basic : Basic) : Type 0 where
  pub value : Value
  pub serial : ℕ
  pub given : slice_get frame.stack 0 ≡ Some value
  pub sorted : same_sort (sort_of value) (sort_of_basic basic) ≡ true
  pub kept : HasContent program (kinds_of state.objects) basic (content_of (kept_value basic value))
  pub object : slice_get frame.stack 1 ≡ Some (values.Ref serial)
  pub word : HasWord program state.objects slot basic serial

-- an array of elements of which something is so: each word that it has is of their type, and there are no more than there may be
pub record IsArray (program : Linked) (objects : List (Option Object)) (Suits : Basic → Type 0) (serial : ℕ) : Type 0 where
  pub object : Object
  pub there : object_in objects serial ≡ Some object
  pub basic : Basic
  pub element : element_of program object.kind ≡ Some basic
  pub suits : Suits basic
  pub each : (place : ℕ) → place < length object.contents → Holds program (kinds_of objects) object.contents place basic
  pub few : length object.contents ≤ most_elements

-- a value on a stack is a reference, which is null or an array
pub data RefersToArray (program : Linked) (objects : List (Option Object)) (Suits : Basic → Type 0) : ℕ → Type 0 where
  ToNull : RefersToArray program objects Suits 0
  ToArray : (serial : ℕ) → IsArray program objects Suits serial → RefersToArray program objects Suits serial

pub record ArrayOn (program : Linked) (state : State) (frame : MethodFrame) (depth : ℕ) (Suits : Basic → Type 0) : Type 0 where
  pub serial : ℕ
  pub on : slice_get frame.stack depth ≡ Some (values.Ref serial)
  pub refers : RefersToArray program state.objects Suits serial

-- loads: an index upon an array of elements of a sort
abbrev pub AreOfSort : Sort → Basic → Type 0
AreOfSort sort basic = sort_of_basic basic ≡ sort

pub record ReadsElement (program : Linked) (state : State) (frame : MethodFrame) (sort : Sort) : Type 0 where
  pub index : ℤ
  pub place : slice_get frame.stack 0 ≡ Some (values.Int index)
  pub array : ArrayOn program state frame 1 (AreOfSort sort)

-- stores: a value of the sort upon that. A reference is null or an object that is there
pub record WritesElement (program : Linked) (state : State) (frame : MethodFrame) (sort : Sort) : Type 0 where
  pub value : Value
  pub index : ℤ
  pub given : slice_get frame.stack 0 ≡ Some value
  pub sorted : same_sort (sort_of value) sort ≡ true
  pub known : IsKnown (kinds_of state.objects) value
  pub place : slice_get frame.stack 1 ≡ Some (values.Int index)
  pub array : ArrayOn program state frame 2 (AreOfSort sort)

-- arraylength: an array of any elements
abbrev pub AreAny : Basic → Type 0
AreAny basic = Unit {0}

abbrev pub MeasuresArray : Linked → State → MethodFrame → Type 0
MeasuresArray program state frame = ArrayOn program state frame 0 AreAny

-- getstatic: the class is there, and the field has a value of its type
pub record ReadsStatic (program : Linked) (state : State) (class slot : ℕ) (basic : Basic) : Type 0 where
  pub low : class < length state.roots.classes
  pub field : HasStatic program (kinds_of state.objects) state.roots.statics slot basic

-- putstatic: the topmost value is of the field's type
pub record WritesStatic (program : Linked) (state : State) (frame : MethodFrame) (class slot : ℕ) (basic : Basic) : Type 0 where
  pub low : class < length state.roots.classes
  pub value : Value
  pub given : slice_get frame.stack 0 ≡ Some value
  pub sorted : same_sort (sort_of value) (sort_of_basic basic) ≡ true
  pub kept : HasBasic program (kinds_of state.objects) basic (kept_value basic value)
  pub field : HasStatic program (kinds_of state.objects) state.roots.statics slot basic

-- checkcast, instanceof and athrow: a reference, which is null or names an object that is there, of a kind of the program
abbrev pub asks_object : Action → Bool
asks_object (actions.Cast index) = true
asks_object (actions.IsInstance index) = true
asks_object actions.Throw = true
asks_object other = false

pub record AsksObject (program : Linked) (state : State) (frame : MethodFrame) : Type 0 where
  pub serial : ℕ
  pub on : slice_get frame.stack 0 ≡ Some (values.Ref serial)
  pub known : IsKnown (kinds_of state.objects) (values.Ref serial)
  pub kind : (object : Object) → object_in state.objects serial ≡ Some object → object.kind < length program.kinds
