-- What the constants of instructions name, in a program that is linked.
use Rattle.std.specs.Prelude.{◌≡◌, ◌<◌, ℕ, true, false, Option, Some, None, length}
use Rattle.cb_insn.specs.declared.insn.Insn.{Insn}
use Rattle.cb_kinds.specs.Basics.{is_reference}
use Rattle.cb_kinds.specs.declared.basic.Basic.{Basic}
use Rattle.cb_kinds.specs.declared.basic.Basic.TheVariants as basics
use Rattle.cb_link.specs.Calls.{class_of_kind}
use Rattle.cb_link.specs.Named.{code_at, insn_in, named}
use Rattle.cb_link.specs.Program.{Linked}
use Rattle.cb_link.specs.Slots.{field_basic}
use Rattle.cb_link.specs.declared.named.Named.TheVariants as meanings
use Rattle.cb_machine.specs.Arrays.{element_of}
use Rattle.cb_shapes.specs.Shapes.{action_of}
use Rattle.cb_shapes.specs.declared.action.Action.{Action}
use Rattle.cb_shapes.specs.declared.action.Action.TheVariants as actions
use Rattle.cb_verify.specs.Within.{Within, holder, kind_named, within}
use Rattle.cb_safety.specs.Kinds.{holds_kind}

-- the objects of a kind are of a class, and have a field of this type at a slot; a kind of a class is no array's
pub record HasField (program : Linked) (kind slot : ℕ) (basic : Basic) : Type 0 where
  pub class : ℕ
  pub classed : class_of_kind program kind ≡ Some class
  pub declared : field_basic program class slot ≡ Some basic
  pub no_elements : element_of program kind ≡ None

-- an instruction on a field of objects names one, and each object that may be held as the kind of which the instruction names the field
-- has it, at the same slot (JVMS §5.4.3.2, §6.5 getfield)
pub record NamesField (program : Linked) (method : Within) (number pc index : ℕ) : Type 0 where
  pub class : ℕ
  pub slot : ℕ
  pub basic : Basic
  pub names : named program number pc ≡ meanings.Field class slot
  pub declared : field_basic program class slot ≡ Some basic
  pub has : (kind own : ℕ) → holder method index ≡ Some kind → holds_kind program own kind ≡ true → HasField program own slot basic

-- an instruction that asks for a class names a kind (JVMS §6.5 checkcast, instanceof)
pub record NamesKind (program : Linked) (method : Within) (number pc index : ℕ) : Type 0 where
  pub kind : ℕ
  pub names : named program number pc ≡ meanings.Kind kind
  pub typed : kind_named method index ≡ Some kind
  pub low : kind < length program.kinds

-- the index in an instruction on a field of objects, and in one that asks for a class
abbrev pub field_index : Action → Option ℕ
field_index (actions.GetField index) = Some index
field_index (actions.PutField index) = Some index
field_index other = None

abbrev pub kind_index : Action → Option ℕ
kind_index (actions.Cast index) = Some index
kind_index (actions.IsInstance index) = Some index
kind_index other = None

-- each such instruction of a program does so
abbrev pub NamesFields : Linked → Type 0
NamesFields program = (number pc index : ℕ) (method : Within) (insn : Insn) (action : Action) → within program number ≡ Some method
    → insn_in (code_at program number) pc ≡ Some insn → action_of insn ≡ Some action → field_index action ≡ Some index → NamesField program method number pc index

abbrev pub NamesKinds : Linked → Type 0
NamesKinds program = (number pc index : ℕ) (method : Within) (insn : Insn) (action : Action) → within program number ≡ Some method
    → insn_in (code_at program number) pc ≡ Some insn → action_of insn ≡ Some action → kind_index action ≡ Some index → NamesKind program method number pc index

-- elements may be held as those of another array: numbers of a base type as those of that type, and references by their kinds
pub data Components (program : Linked) : Basic → Basic → Type 0 where
  Alike : (basic : Basic) → is_reference basic ≡ false → Components program basic basic
  References : (kind other : ℕ) → holds_kind program kind other ≡ true → Components program (basics.Reference kind) (basics.Reference other)

-- the objects of a kind are arrays of such elements; a kind of an array is no class's
pub record HasElements (program : Linked) (kind : ℕ) (basic : Basic) : Type 0 where
  pub element : Basic
  pub is : element_of program kind ≡ Some element
  pub held : Components program element basic
  pub no_class : class_of_kind program kind ≡ None

-- what may be held as an array is an array, of elements that may be held as that one's (JVMS §4.10.1.2)
abbrev pub HoldsElements : Linked → Type 0
HoldsElements program = (own kind : ℕ) (basic : Basic) → holds_kind program own kind ≡ true → element_of program kind ≡ Some basic → HasElements program own basic
