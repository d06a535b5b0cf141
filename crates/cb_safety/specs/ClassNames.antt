-- The classes of a program by their names.
use Rattle.std.specs.Prelude.{◌≡◌, ℕ, List, map, Some, slice_get}
use Rattle.cb_classfile.specs.Pool.{class_at}
use Rattle.cb_classfile.specs.declared.class.ClassFile.{ClassFile}
use Rattle.cb_kinds.specs.Texts.{EachOnce}
use Rattle.cb_link.specs.Numbers.{class_number, name_of}
use Rattle.cb_link.specs.Program.{Linked}

-- no two classes have one name (JVMS §5.3: a class is defined once)
abbrev pub NamedOnce : List ClassFile → Type 0
NamedOnce classes = EachOnce (map name_of classes)

-- the superclass of each class is among them (§5.3.5)
abbrev pub HaveSuperclasses : List ClassFile → Type 0
HaveSuperclasses classes =
    (number : ℕ) → (class : ClassFile) → (name : List ℕ) → slice_get classes number ≡ Some class → class_at class.pool class.super_class ≡ Some name
    → (above : ℕ) × (class_number classes name ≡ Some above)

-- the kind of each class is its number, as the number of its name is
pub record AreOwnKinds (program : Linked) : Type 0 where
  pub kind : (number : ℕ) → (class : ClassFile) → slice_get program.classes number ≡ Some class → slice_get program.kinds number ≡ Some (name_of class)
  pub number : (number : ℕ) → (class : ClassFile) → slice_get program.classes number ≡ Some class → class_number program.classes (name_of class) ≡ Some number
