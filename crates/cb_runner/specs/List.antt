-- What `list` comes to, by the file at its path. In its refusals the path stands as the class's name.
use Rattle.std.specs.Prelude.{◌≡◌, ◌⊎◌, ℕ, ◌+◌, ◌<◌, ◌≤◌, List, length, Option, Some, None}
use Rattle.cb_asm_list.specs.Listing.{listing}
use Rattle.cb_classfile.specs.declared.class.ClassFile.{ClassFile}
use Rattle.cb_classfile.specs.declared.feature.Feature.{Feature}
use Rattle.cb_classfile.specs.Answers.{HasNoOtherVersion, IsAcceptedClass, SpellsNone}
use Rattle.cb_classfile.specs.Class.{HasVersion, IsAccepted}
use Rattle.cb_classfile.specs.Profile.{unsupported}
use Rattle.cb_link.specs.declared.refusal.Quantity.TheVariants.{ClassFileBytes}
use Rattle.cb_runner.specs.Ending.{Ending, refused, returned}
use Rattle.cb_runner.specs.Messages.{MissingClass, TooLarge, Malformed, BadVersion, Unsupported}
use Rattle.cb_runner.specs.Run.{file_limit}

-- the bytes are the file of this class, and the machine leaves nothing of it out
pub record IsListed (bytes : List ℕ) (class : ClassFile) : Type 0 where
  pub read : IsAcceptedClass bytes class
  pub whole : unsupported class ≡ None

-- the first item of the class whose file they are that the machine leaves out
pub record LeavesOut (bytes : List ℕ) (item : Feature) : Type 0 where
  pub class : ClassFile
  pub read : IsAcceptedClass bytes class
  pub first : unsupported class ≡ Some item

-- the bytes begin as a class file of another version does, are no class file, have an item that is left out, or are listed
pub data ListsBytes (path bytes : List ℕ) (ending : Ending) : Type 0 where
  OfVersion : (major : ℕ) → HasVersion bytes major → ¬ IsAccepted major → ending ≡ refused (BadVersion path major) 0 → ListsBytes path bytes ending
  OfNoClass : HasNoOtherVersion bytes → SpellsNone bytes → ending ≡ refused (Malformed path) 0 → ListsBytes path bytes ending
  OfItem : (item : Feature) → LeavesOut bytes item → ending ≡ refused (Unsupported path item) 0 → ListsBytes path bytes ending
  Listed : (class : ClassFile) → IsListed bytes class → ending ≡ returned (listing class) 0 → ListsBytes path bytes ending

-- the file is missing, too long, or judged by its bytes
abbrev pub ListsFile : List ℕ → Option (List ℕ) → Ending → Type 0
ListsFile path None ending = ending ≡ refused (MissingClass path) 0
ListsFile path (Some bytes) ending =
    ((file_limit < length bytes) × (ending ≡ refused (TooLarge ClassFileBytes (file_limit + 1) file_limit) 0))
    ⊎ ((length bytes ≤ file_limit) × ListsBytes path bytes ending)
