-- What a row of the table of the library's classes says, and the words in which rows are written.
use Rattle.std.specs.Prelude.{ℕ, ◌+◌, List, [], ◌∷◌, Option}
use Rattle.cb_library.specs.declared.native.Native.{Native}
use Rattle.cb_library.specs.Flags.{public, final, acc_super, acc_native, acc_interface, acc_abstract}

-- An instruction, by its opcode and what its operand names. A branch names its target by the number of an instruction
-- of the body, counted from 0.
pub data Instruction : Type 0 where
  Plain : ℕ → Instruction
  Branch : ℕ → (target : ℕ) → Instruction
  LoadText : (text : List ℕ) → Instruction
  OfClass : ℕ → (class : List ℕ) → Instruction
  OfField : ℕ → (class name descriptor : List ℕ) → Instruction
  OfMethod : ℕ → (class name descriptor : List ℕ) → Instruction

-- A frame of the verifier (JVMS §4.7.4) before the instruction of a number: its locals are objects of these classes, and
-- its operand stack is empty.
pub record Frame : Type 0 where
  pub at : ℕ
  pub locals : List (List ℕ)

pub record Body : Type 0 where
  pub max_stack : ℕ
  pub max_locals : ℕ
  pub code : List Instruction
  pub frames : List Frame

-- what a method is
pub data Kind : Type 0 where
  Abstract : Kind
  Performed : Native → Kind
  Runs : Body → Kind

pub record Method : Type 0 where
  pub flags : ℕ
  pub name : List ℕ
  pub descriptor : List ℕ
  pub kind : Kind

pub record Field : Type 0 where
  pub flags : ℕ
  pub name : List ℕ
  pub descriptor : List ℕ

pub record CoreClass : Type 0 where
  pub flags : ℕ
  pub name : List ℕ
  pub superclass : Option (List ℕ)
  pub interfaces : List (List ℕ)
  pub fields : List Field
  pub methods : List Method

-- the flags of a public class, of one that may have no subclass, of one that has no objects of its own, and of an
-- interface
abbrev pub public_class : ℕ
public_class = public + acc_super

abbrev pub final_class : ℕ
final_class = public + final + acc_super

abbrev pub abstract_class : ℕ
abstract_class = public + acc_super + acc_abstract

abbrev pub public_interface : ℕ
public_interface = public + acc_interface + acc_abstract

-- a field and the kinds of methods, by flags, name and descriptor. Behind these stands which native it is, or the body
abbrev pub field : ℕ → List ℕ → List ℕ → Field
field flags name descriptor = record { flags = flags; name = name; descriptor = descriptor }

abbrev pub method : ℕ → List ℕ → List ℕ → Kind → Method
method flags name descriptor kind = record { flags = flags; name = name; descriptor = descriptor; kind = kind }

abbrev pub abstract : ℕ → List ℕ → List ℕ → Method
abstract flags name descriptor = method (flags + acc_abstract) name descriptor Abstract

abbrev pub native : ℕ → List ℕ → List ℕ → Native → Method
native flags name descriptor which = method (flags + acc_native) name descriptor (Performed which)

-- a body by its greatest operand stack, its locals and its code, without and with branches
abbrev pub runs : ℕ → ℕ → List Instruction → Kind
runs stack locals code = Runs (record { max_stack = stack; max_locals = locals; code = code; frames = [] })

abbrev pub branches : ℕ → ℕ → List Instruction → Frame → Kind
branches stack locals code frame = Runs (record { max_stack = stack; max_locals = locals; code = code; frames = frame ∷ [] })

abbrev pub frame : ℕ → List (List ℕ) → Frame
frame at locals = record { at = at; locals = locals }
