-- What an answer of the readers rests on.
use Rattle.std.specs.Prelude.{◌≡◌, ℕ, List, Some}
use Rattle.cb_classfile.specs.declared.class.ClassFile.{ClassFile}
use Rattle.cb_classfile.specs.declared.fault.ClassFault.{ClassFault}
use Rattle.cb_classfile.specs.declared.fault.ClassFault.TheVariants.{BadVersion, Malformed, Unsupported, OutOfMemory}
use Rattle.cb_classfile.specs.declared.fault.ReadFault.{ReadFault}
use Rattle.cb_classfile.specs.declared.fault.ReadFault.TheVariants as unread
use Rattle.cb_classfile.specs.Class.{HasVersion, IsAccepted, SpellsClass}
use Rattle.cb_classfile.specs.Profile.{unsupported}

-- the bytes spell a class of an accepted version
pub record IsAcceptedClass (bytes : List ℕ) (class : ClassFile) : Type 0 where
  pub spelled : SpellsClass bytes class
  pub accepted : IsAccepted class.major

-- no version behind the magic number is refused
abbrev pub HasNoOtherVersion : List ℕ → Type 0
HasNoOtherVersion bytes = (major : ℕ) → HasVersion bytes major → IsAccepted major

-- the bytes spell no class
abbrev pub SpellsNone : List ℕ → Type 0
SpellsNone bytes = (class : ClassFile) → ¬ SpellsClass bytes class

-- why no class was read stands in the bytes
abbrev pub StandsUnread : List ℕ → ReadFault → Type 0
StandsUnread bytes (unread.BadVersion major) = HasVersion bytes major × (¬ IsAccepted major)
StandsUnread bytes unread.Malformed = SpellsNone bytes × HasNoOtherVersion bytes
StandsUnread bytes unread.OutOfMemory = HasNoOtherVersion bytes

-- and why no class that this machine takes was
abbrev pub Stands : List ℕ → ClassFault → Type 0
Stands bytes (BadVersion major) = StandsUnread bytes (unread.BadVersion major)
Stands bytes Malformed = StandsUnread bytes unread.Malformed
Stands bytes (Unsupported item) = (class : ClassFile) × IsAcceptedClass bytes class × (unsupported class ≡ Some item)
Stands bytes OutOfMemory = StandsUnread bytes unread.OutOfMemory
