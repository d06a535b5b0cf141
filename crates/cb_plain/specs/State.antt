-- The state of a machine: what runs, what there is, and what has come in and gone out (JVMS §2.5, §2.6, §5.5).
use Rattle.std.specs.Prelude.{ℤ, pos, ℕ, ◌+◌, Bool, true, false, List, Option}
use Rattle.cb_plain.specs.declared.class_state.ClassState.{ClassState}
use Rattle.cb_plain.specs.declared.value.Value.{Value}

-- a method that runs: its place, how many slots it has room for, its local variables, of which a long takes two, and its operand stack,
-- the topmost value first
pub record MethodFrame : Type 0 where
  pub method : ℕ
  pub pc : ℕ
  pub slots : ℕ
  pub locals : List Value
  pub stack : List Value

-- a frame is that of a method, or of a class that is being initialised, which has come to a place of its initialisation
pub data Frame : Type 0 where
  OfMethod : MethodFrame → Frame
  Initialising : (class place : ℕ) → Frame

-- objects that are placed once, by what they stand for, 0 where there is none yet: strings by texts, class objects by kinds, and boxes
-- from the least number that has one
pub record Tables : Type 0 where
  pub constants : List ℕ
  pub classes : List ℕ
  pub integers : List ℕ
  pub longs : List ℕ
  pub characters : List ℕ
  pub booleans : List ℕ

-- how many ints and longs have one box each, from -128 on, and how many chars, from 0 on (JLS §5.1.7)
abbrev pub small_numbers : ℕ
small_numbers = 256

abbrev pub small_chars : ℕ
small_chars = 128

-- what names objects from outside: the frames, the topmost first; the pending exception, 0 where there is none; the static fields by
-- slot; the tables; and the array of arguments while it waits for `main`, else 0. With how far each class is
pub record Roots : Type 0 where
  pub frames : List Frame
  pub pending : ℕ
  pub statics : List Value
  pub classes : List ClassState
  pub tables : Tables
  pub argument : ℕ

-- what a word of an object holds: a number, or the serial of an object, 0 for null
pub data Content : Type 0 where
  Number : ℤ → Content
  Reference : ℕ → Content

-- what a word holds at first, by whether it holds a reference
abbrev pub blank : Bool → Content
blank true = Reference 0
blank false = Number (pos 0)

pub record Object : Type 0 where
  pub site : ℕ
  pub kind : ℕ
  pub contents : List Content

-- the words that an object takes: three of its header and those of its contents
abbrev pub words_of : ℕ → ℕ
words_of size = 3 + size

-- the object of a serial stands at the place one below it, where it is kept. Of the input there is what is left
pub record State : Type 0 where
  pub roots : Roots
  pub objects : List (Option Object)
  pub input : List ℕ
  pub printed : List ℕ
  pub exit : Option ℤ
