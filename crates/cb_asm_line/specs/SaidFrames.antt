-- What the words of frames say: no public clause names this file.
use Rattle.std.specs.Prelude.{◌≡◌, ◌≢◌, ◌⊎◌, ℕ, List, codes, [], ◌∷◌, ◌++◌, map}
use Rattle.std.specs.List.{AllByRecursion, join_with_byte}
use Rattle.cb_asm_line.specs.Inner.{Lacks}
use Rattle.cb_asm_line.specs.Label.{Label}
use Rattle.cb_asm_line.specs.Lines.{Line, Word}
use Rattle.cb_asm_line.specs.Said.{IsLabel, IsName}
use Rattle.cb_asm_line.specs.Spelling.{type_word, types_word}
use Rattle.cb_asm_line.specs.Statements.{IsType}
use Rattle.cb_asm_line.specs.declared.frame.Frame.{Frame}
use Rattle.cb_asm_line.specs.declared.frame.FrameType.{FrameType}
use Rattle.cb_asm_line.specs.declared.frame.FrameType.TheVariants.{Top, Int, Long, Null, This, Object, New}

-- a word is a type of a frame: one by itself, that of an object, or what a `new` has made
abbrev pub IsPlainType : Word → FrameType Label → Type 0
IsPlainType word Top = word ≡ codes "top"
IsPlainType word Int = word ≡ codes "int"
IsPlainType word Long = word ≡ codes "long"
IsPlainType word Null = word ≡ codes "null"
IsPlainType word This = word ≡ codes "this"
IsPlainType word other = ⊥

pub record IsObject (word : Word) (type : FrameType Label) : Type 0 where
  pub name : List ℕ
  pub rest : Word
  pub is : type ≡ Object name
  pub have : word ≡ codes "object:" ++ rest
  pub says : IsName rest name

pub record IsNew (word : Word) (type : FrameType Label) : Type 0 where
  pub label : Label
  pub rest : Word
  pub is : type ≡ New label
  pub have : word ≡ codes "new:" ++ rest
  pub says : IsLabel rest label

abbrev pub SaysType : Word → FrameType Label → Type 0
SaysType word type = IsPlainType word type ⊎ IsObject word type ⊎ IsNew word type

pub record IsTypeWord (word : Word) (type : FrameType Label) : Type 0 where
  pub is : IsType type
  pub spelled : word ≡ type_word type

-- a word is the types of a frame
pub record AreTypes (word : Word) (types : List (FrameType Label)) : Type 0 where
  pub each : AllByRecursion IsType types
  pub spelled : word ≡ types_word types

-- words are types, each by itself
pub record AreEach (words : Line) (types : List (FrameType Label)) : Type 0 where
  pub each : AllByRecursion IsType types
  pub are : words ≡ map type_word types

-- words without a unit, with which they are joined
pub record AreApart (unit : ℕ) (text : List ℕ) (words : Line) : Type 0 where
  pub some : words ≢ []
  pub whole : join_with_byte unit words ≡ text
  pub lack : AllByRecursion (Lacks unit) words

-- a label, and the types of the locals and on the stack
pub record SaysParts (at front back : Word) (frame : Frame Label) : Type 0 where
  pub place : IsLabel at frame.place
  pub locals : AreTypes front frame.locals
  pub stack : AreTypes back frame.stack

pub record SaysFrame (words : Line) (frame : Frame Label) : Type 0 where
  pub at : Word
  pub front : Word
  pub back : Word
  pub have : words ≡ at ∷ codes "locals" ∷ front ∷ codes "stack" ∷ back ∷ []
  pub says : SaysParts at front back frame
