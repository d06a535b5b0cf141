-- What this crate's own functions and proofs cite of turns, and no public clause.
use Rattle.std.specs.Prelude.{◌≡◌, ℕ, ◌+◌, true, List, ◌++◌, length, map, take, slice_get, Option, Some, None}
use Rattle.std.specs.List.{list_any}
use Rattle.cb_io.specs.Folder.{Files, FindsAt}
use Rattle.cb_io.specs.declared.folder.Found.{Found}
use Rattle.cb_classfile.specs.declared.class.ClassFile.{ClassFile}
use Rattle.cb_classfile.specs.Answers.{HasNoOtherVersion, IsAcceptedClass}
use Rattle.cb_classfile.specs.Class.{HasVersion, IsAccepted, SpellsClass}
use Rattle.cb_classfile.specs.Pool.{class_at}
use Rattle.cb_classfile.specs.Profile.{unsupported}
use Rattle.cb_link.specs.declared.refusal.Refusal.{Refusal}
use Rattle.cb_link.specs.declared.refusal.Refusal.TheVariants.{Malformed, BadVersion, Unsupported, FolderFault, OutOfMemory}
use Rattle.cb_link.specs.Numbers.{same_name, library_size}
use Rattle.cb_load.specs.Names.{Entry, names_of}
use Rattle.cb_load.specs.Closure.{IsBegun, Turn, entries_of}
use Rattle.cb_load.specs.Files.{MayStandAt, path_of}
use Rattle.cb_load.specs.Loading.{AreLoaded, AreTurns, IsRefused, Loads, file_limit, is_loaded, loaded, loaded_names}

-- what a folder has for a name was found
abbrev pub IsFound : Option Files → List ℕ → List ℕ → Found → Type 0
IsFound files root name found = (file : Option (List ℕ)) × MayStandAt files (path_of root name) file × FindsAt file file_limit found

-- these names have no file
abbrev pub AreAbsent : Option Files → List ℕ → List (List ℕ) → Type 0
AreAbsent files root names = (name : List ℕ) → list_any (same_name name) names ≡ true → MayStandAt files (path_of root name) None

-- the folder failed, or there was no memory
abbrev pub IsOutside : Refusal → Type 0
IsOutside FolderFault = Unit {0}
IsOutside OutOfMemory = Unit {0}
IsOutside other = ⊥

-- why bytes aren't the file of a class of this name of which the machine leaves nothing out
abbrev pub IsNoClassOf : List ℕ → List ℕ → Refusal → Type 0
IsNoClassOf name bytes (BadVersion class major) = (class ≡ name) × HasVersion bytes major × (¬ IsAccepted major)
IsNoClassOf name bytes (Malformed class) =
    (class ≡ name) × HasNoOtherVersion bytes × ((class : ClassFile) → SpellsClass bytes class → ¬ (class_at class.pool class.this_class ≡ Some name))
IsNoClassOf name bytes (Unsupported class item) =
    (class ≡ name) × ((class : ClassFile) × IsAcceptedClass bytes class × (class_at class.pool class.this_class ≡ Some name) × (unsupported class ≡ Some item))
IsNoClassOf name bytes OutOfMemory = Unit {0}
IsNoClassOf name bytes other = ⊥

-- what a refusal says of an entry behind turns
abbrev pub StopsAt : Option Files → List ℕ → List (Turn ClassFile) → Entry → Refusal → Type 0
StopsAt files root before entry OutOfMemory = Unit {0}
StopsAt files root before entry FolderFault = Unit {0}
StopsAt files root before entry refusal = IsRefused files root before entry refusal

-- turns that were taken: those of so many first entries, of all that the turns add; which names are those of classes that
-- are there; and the library's classes with those that the turns load
pub record AreTaken (files : Option Files) (root main : List ℕ) (library : List ClassFile) (count : ℕ) (entries : List Entry) (has : List (List ℕ)) (classes : List ClassFile) (turns : List (Turn ClassFile)) : Type 0 where
  pub begun : IsBegun names_of main turns
  pub each : AreTurns files root turns
  pub counted : length turns ≡ count
  pub added : entries_of names_of main turns ≡ entries
  pub passed : map (λ turn. turn.entry) turns ≡ take count entries
  pub there : (name : List ℕ) → list_any (same_name name) has ≡ is_loaded turns name
  pub all : library ++ loaded turns ≡ classes
  pub size : library_size + length (loaded_names turns) ≡ length classes

-- some turns were taken so
abbrev pub Stands : Option Files → List ℕ → List ℕ → List ClassFile → ℕ → List Entry → List (List ℕ) → List ClassFile → Type 0
Stands files root main library count entries has classes =
    (turns : List (Turn ClassFile)) × AreTaken files root main library count entries has classes turns

-- the next class to be loaded, by the place of its entry; or there is none
abbrev pub IsNext : Option Files → List ℕ → List ℕ → List ClassFile → List Entry → List (List ℕ) → List ClassFile → Option (ℕ × ClassFile) → Type 0
IsNext files root main library entries has classes None = (rest : List ClassFile) × AreLoaded files root main rest × (classes ≡ library ++ rest)
IsNext files root main library entries has classes (Some (place, class)) =
    (turns : List (Turn ClassFile)) × (entry : Entry) × AreTaken files root main library place entries has classes turns
    × (slice_get entries place ≡ Some entry) × Loads files root turns entry (Some class)
