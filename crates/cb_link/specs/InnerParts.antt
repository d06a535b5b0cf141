-- What a program numbers beside its classes, which no public clause cites.
use Rattle.std.specs.Prelude.{◌≡◌, ◌≤◌, ℕ, List, map}
use Rattle.cb_classfile.specs.declared.class.ClassFile.{ClassFile}
use Rattle.cb_kinds.specs.Basics.{kind_number}
use Rattle.cb_link.specs.declared.judging.Parts.{Parts}
use Rattle.cb_link.specs.Having.{IsWhole}
use Rattle.cb_link.specs.Judging.{site_count, site_limit}
use Rattle.cb_link.specs.Making.{constants, fixed_kinds, kinds, makings}
use Rattle.cb_link.specs.Numbers.{fields_of, methods_of}
use Rattle.cb_link.specs.Program.{Linked, linked_by, linked_field, linked_method, linked_site}

pub record AreParts (classes : List ClassFile) (parts : Parts) : Type 0 where
  pub of_kinds : parts.kinded.kinds ≡ kinds classes
  pub of_fixed : parts.kinded.fixed ≡ map (kind_number (kinds classes)) fixed_kinds
  pub of_texts : parts.kinded.constants ≡ constants classes
  pub of_methods : parts.listed.methods ≡ map (linked_method (kinds classes)) (methods_of classes)
  pub of_fields : parts.listed.fields ≡ map (linked_field (kinds classes)) (fields_of classes)
  pub of_sites : parts.listed.sites ≡ map (linked_site (kinds classes)) (makings classes)
  pub few : site_count classes ≤ site_limit

-- the program with this main class, which begins with a method
abbrev pub linked_with : List ClassFile → ℕ → ℕ → Linked
linked_with classes class method = linked_by classes (kinds classes) class method

pub record HasParts (classes : List ClassFile) (parts : Parts) (class method : ℕ) : Type 0 where
  pub are : AreParts classes parts
  pub whole : IsWhole (linked_with classes class method)
