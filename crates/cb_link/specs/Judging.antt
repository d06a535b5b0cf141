-- The classes that were loaded are a program, or the first reason in the order of looking why they aren't (JVMS §5.3.5, §5.4).
use Rattle.std.specs.Prelude.{◌≡◌, ℕ, ◌+◌, ◌<◌, ◌≤◌, List, length, Some, None}
use Rattle.std.specs.Prelude.{slice_get}
use Rattle.cb_classfile.specs.declared.class.ClassFile.{ClassFile}
use Rattle.cb_hierarchy.specs.Bad.{AreGood, IsFirstBad}
use Rattle.cb_link.specs.declared.refusal.Quantity.TheVariants.{Methods, Sites}
use Rattle.cb_link.specs.declared.refusal.Refusal.{Refusal}
use Rattle.cb_link.specs.declared.refusal.Refusal.TheVariants.{BadHierarchy, FolderFault, MissingMember, NoMain, OutOfMemory, TooLarge}
use Rattle.cb_link.specs.Lacking.{first_lacking}
use Rattle.cb_link.specs.Making.{fixed_kinds, makings}
use Rattle.cb_link.specs.Numbers.{hierarchy, methods_of, name_of, ranked_methods}
use Rattle.cb_link.specs.Resolving.{main_method}

-- the most classes, of which the library's are some; the most methods; and the most sites, of which the machine's own are some
abbrev pub class_limit : ℕ
class_limit = 1024

abbrev pub method_limit : ℕ
method_limit = 16384

abbrev pub site_limit : ℕ
site_limit = 16384

abbrev pub site_count : List ClassFile → ℕ
site_count classes = length fixed_kinds + length (makings classes)

-- no class is bad, no instruction lacks a member, there is a main method, and there are not too many methods and sites
pub record IsProgram (classes : List ClassFile) (main : List ℕ) (method : ℕ) : Type 0 where
  pub good : AreGood (hierarchy classes) (ranked_methods classes)
  pub whole : first_lacking classes ≡ None
  pub begins : main_method classes main ≡ Some method
  pub methods : length (methods_of classes) ≤ method_limit
  pub sites : site_count classes ≤ site_limit

-- why classes are no program
pub data IsNoProgram (classes : List ClassFile) (main : List ℕ) : Refusal → Type 0 where
  IsBadAt : (number : ℕ) (class : ClassFile) → IsFirstBad (hierarchy classes) (ranked_methods classes) (Some number)
      → slice_get classes number ≡ Some class → IsNoProgram classes main (BadHierarchy (name_of class))
  Lacks : (number : ℕ) (class : ClassFile) (member : List ℕ) → AreGood (hierarchy classes) (ranked_methods classes)
      → first_lacking classes ≡ Some (number, member) → slice_get classes number ≡ Some class
      → IsNoProgram classes main (MissingMember (name_of class) member)
  HasNoMain : AreGood (hierarchy classes) (ranked_methods classes) → first_lacking classes ≡ None → main_method classes main ≡ None
      → IsNoProgram classes main (NoMain main)
  HasManyMethods : (method : ℕ) → AreGood (hierarchy classes) (ranked_methods classes) → first_lacking classes ≡ None
      → main_method classes main ≡ Some method → method_limit < length (methods_of classes)
      → IsNoProgram classes main (TooLarge Methods (method_limit + 1) method_limit)
  HasManySites : (method : ℕ) → AreGood (hierarchy classes) (ranked_methods classes) → first_lacking classes ≡ None
      → main_method classes main ≡ Some method → length (methods_of classes) ≤ method_limit → site_limit < site_count classes
      → IsNoProgram classes main (TooLarge Sites (site_limit + 1) site_limit)

-- what a refusal says of classes: want of memory says nothing, and no folder is asked that could fail
abbrev pub HindersProgram : List ClassFile → List ℕ → Refusal → Type 0
HindersProgram classes main OutOfMemory = Unit {0}
HindersProgram classes main FolderFault = ⊥
HindersProgram classes main refusal = IsNoProgram classes main refusal
