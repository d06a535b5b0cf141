-- What is so of the order of a program's classes, where it is good and the library stands in front.
use Rattle.std.specs.Prelude.{◌≡◌, ℕ, true, false, List, Some, codes}
use Rattle.cb_classfile.specs.declared.class.ClassFile.{ClassFile}
use Rattle.cb_classfile.specs.Pool.{class_at}
use Rattle.cb_classfile.specs.Flags.{acc_interface}
use Rattle.cb_link.specs.Numbers.{has_flag}
use Rattle.cb_link.specs.Subtypes.{is_below, is_object, names_interface}

-- the superclass of an interface is Object (JVMS §4.1)
abbrev pub ExtendsObject : ClassFile → Type 0
ExtendsObject class = has_flag acc_interface class.flags.0 ≡ true → class_at class.pool class.super_class ≡ Some (codes "java/lang/Object")

-- what is above a class that is above another is above that one; Object is above itself alone; an interface is below interfaces
-- and Object; and the interfaces that arrays have are interfaces
pub record HasOrder (classes : List ClassFile) : Type 0 where
  pub transitive : (one two three : List ℕ) → is_below classes one two ≡ true → is_below classes two three ≡ true → is_below classes one three ≡ true
  pub object_last : (other : List ℕ) → is_below classes (codes "java/lang/Object") other ≡ true → is_object other ≡ true
  pub of_interface : (one other : List ℕ) → is_below classes one other ≡ true → names_interface classes one ≡ true → names_interface classes other ≡ false
      → is_object other ≡ true
  pub cloneable : names_interface classes (codes "java/lang/Cloneable") ≡ true
  pub serializable : names_interface classes (codes "java/io/Serializable") ≡ true
