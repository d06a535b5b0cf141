-- Loading (JVMS §5.3): the classes of a folder that a main class needs, or the first reason in the order of looking why
-- they can't be had.
use Rattle.std.specs.Prelude.{◌≡◌, ℕ, ◌+◌, ◌<◌, ◌≤◌, Bool, true, false, ◌||◌, List, [], ◌∷◌, length, take, slice_get, Option, Some, None}
use Rattle.std.specs.List.{flat_map, list_any}
use Rattle.cb_io.specs.Folder.{Files}
use Rattle.cb_classfile.specs.declared.class.ClassFile.{ClassFile}
use Rattle.cb_classfile.specs.declared.feature.Feature.{Feature}
use Rattle.cb_classfile.specs.Answers.{HasNoOtherVersion, IsAcceptedClass}
use Rattle.cb_classfile.specs.Class.{HasVersion, IsAccepted, SpellsClass}
use Rattle.cb_classfile.specs.Pool.{class_at}
use Rattle.cb_classfile.specs.Profile.{unsupported}
use Rattle.cb_link.specs.declared.refusal.Quantity.TheVariants.{ClassFileBytes, Classes}
use Rattle.cb_link.specs.declared.refusal.Refusal.{Refusal}
use Rattle.cb_link.specs.declared.refusal.Refusal.TheVariants.{MissingClass, TooLarge, Malformed, BadVersion, Unsupported, FolderFault, OutOfMemory}
use Rattle.cb_link.specs.Judging.{class_limit}
use Rattle.cb_link.specs.Numbers.{library_size, same_name}
use Rattle.cb_load.specs.Names.{Entry, names_of}
use Rattle.cb_load.specs.Closure.{IsBegun, IsClosure, Turn, entries_of}
use Rattle.cb_load.specs.Files.{MayStandAt, is_core, path_of}

-- the most bytes of a class file
abbrev pub file_limit : ℕ
file_limit = 1048576

-- the names of the classes that turns load, and whether a class of a name is there: the library's are from the start
abbrev pub loaded_name : Turn ClassFile → List (List ℕ)
loaded_name turn = by_class turn.loads where
  by_class : Option ClassFile → List (List ℕ)
  by_class None = []
  by_class (Some class) = turn.entry.name ∷ []

abbrev pub loaded_names : List (Turn ClassFile) → List (List ℕ)
loaded_names turns = flat_map loaded_name turns

abbrev pub is_loaded : List (Turn ClassFile) → List ℕ → Bool
is_loaded turns name = is_core name || list_any (same_name name) (loaded_names turns)

-- there is still room for a class
abbrev pub HasRoom : List (Turn ClassFile) → Type 0
HasRoom before = length (loaded_names before) + library_size < class_limit

-- the bytes are the file of a class of this name, and the machine leaves nothing of it out
pub record IsClassOf (name bytes : List ℕ) (class : ClassFile) : Type 0 where
  pub short : length bytes ≤ file_limit
  pub read : IsAcceptedClass bytes class
  pub named : class_at class.pool class.this_class ≡ Some name
  pub whole : unsupported class ≡ None

-- what an entry comes to behind turns: its class is there already; it has no file and isn't needed; or its file is that of a
-- class, which is loaded
pub data Loads (files : Option Files) (root : List ℕ) (before : List (Turn ClassFile)) (entry : Entry) : Option ClassFile → Type 0 where
  IsThere : is_loaded before entry.name ≡ true → Loads files root before entry None
  StaysOpaque : is_loaded before entry.name ≡ false → MayStandAt files (path_of root entry.name) None → entry.needed ≡ false → Loads files root before entry None
  IsRead : (bytes : List ℕ) (class : ClassFile) → is_loaded before entry.name ≡ false → MayStandAt files (path_of root entry.name) (Some bytes)
      → HasRoom before → IsClassOf entry.name bytes class → Loads files root before entry (Some class)

-- why an entry behind turns is refused, in the order of looking: its class is needed and has no file; the file is too long;
-- there are too many classes; the bytes begin as a class file of another version; they are no class file, or that of a class
-- of another name; the class has an item that the machine leaves out
pub data IsRefused (files : Option Files) (root : List ℕ) (before : List (Turn ClassFile)) (entry : Entry) : Refusal → Type 0 where
  IsMissing : is_loaded before entry.name ≡ false → MayStandAt files (path_of root entry.name) None → entry.needed ≡ true
      → IsRefused files root before entry (MissingClass entry.name)
  IsLong : (bytes : List ℕ) → is_loaded before entry.name ≡ false → MayStandAt files (path_of root entry.name) (Some bytes)
      → file_limit < length bytes → IsRefused files root before entry (TooLarge ClassFileBytes (file_limit + 1) file_limit)
  AreMany : (bytes : List ℕ) → is_loaded before entry.name ≡ false → MayStandAt files (path_of root entry.name) (Some bytes)
      → length bytes ≤ file_limit → ¬ HasRoom before → IsRefused files root before entry (TooLarge Classes (class_limit + 1) class_limit)
  IsOfVersion : (bytes : List ℕ) (major : ℕ) → is_loaded before entry.name ≡ false → MayStandAt files (path_of root entry.name) (Some bytes)
      → length bytes ≤ file_limit → HasRoom before → HasVersion bytes major → ¬ IsAccepted major
      → IsRefused files root before entry (BadVersion entry.name major)
  IsNoClass : (bytes : List ℕ) → is_loaded before entry.name ≡ false → MayStandAt files (path_of root entry.name) (Some bytes)
      → length bytes ≤ file_limit → HasRoom before → HasNoOtherVersion bytes
      → ((class : ClassFile) → SpellsClass bytes class → ¬ (class_at class.pool class.this_class ≡ Some entry.name))
      → IsRefused files root before entry (Malformed entry.name)
  IsLeftOut : (bytes : List ℕ) (class : ClassFile) (item : Feature) → is_loaded before entry.name ≡ false
      → MayStandAt files (path_of root entry.name) (Some bytes) → length bytes ≤ file_limit → HasRoom before
      → IsAcceptedClass bytes class → class_at class.pool class.this_class ≡ Some entry.name → unsupported class ≡ Some item
      → IsRefused files root before entry (Unsupported entry.name item)

-- each turn comes to what it comes to behind those before it
abbrev pub AreTurns : Option Files → List ℕ → List (Turn ClassFile) → Type 0
AreTurns files root turns =
    (place : ℕ) (turn : Turn ClassFile) → slice_get turns place ≡ Some turn → Loads files root (take place turns) turn.entry turn.loads

-- the classes that turns load, in the order of their names' first entries
abbrev pub loaded : List (Turn ClassFile) → List ClassFile
loaded turns = flat_map (λ turn. listed turn.loads) turns where
  listed : Option ClassFile → List ClassFile
  listed None = []
  listed (Some class) = class ∷ []

-- these are the classes of a folder that a main class needs, in the order in which they are loaded
pub record AreLoaded (files : Option Files) (root main : List ℕ) (classes : List ClassFile) : Type 0 where
  pub turns : List (Turn ClassFile)
  pub closure : IsClosure names_of main turns
  pub each : AreTurns files root turns
  pub all : classes ≡ loaded turns

-- loading stops for this reason: it is that of the first entry that is refused
pub record StopsFor (files : Option Files) (root main : List ℕ) (refusal : Refusal) : Type 0 where
  pub turns : List (Turn ClassFile)
  pub begun : IsBegun names_of main turns
  pub each : AreTurns files root turns
  pub entry : Entry
  pub next : slice_get (entries_of names_of main turns) (length turns) ≡ Some entry
  pub refused : IsRefused files root turns entry refusal

-- what a refusal of linking says of the folder: want of memory and a failed call of the folder are no fault of the classes
abbrev pub Stops : Option Files → List ℕ → List ℕ → Refusal → Type 0
Stops files root main OutOfMemory = Unit {0}
Stops files root main FolderFault = Unit {0}
Stops files root main refusal = StopsFor files root main refusal
