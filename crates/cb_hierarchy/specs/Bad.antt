-- The classes that can't be in a hierarchy (JVMS §5.3.5, §4.10).
use Rattle.std.specs.Prelude.{◌≡◌, ℕ, ◌<◌, true, false, List, length, slice_get, Option, Some, None}
use Rattle.std.specs.List.{Contains}
use Rattle.cb_hierarchy.specs.declared.class.Class.{Class}
use Rattle.cb_hierarchy.specs.declared.member.Method.{Method}
use Rattle.cb_hierarchy.specs.Above.{IsAbove}
use Rattle.cb_hierarchy.specs.Classes.{is_final, is_interface, parents, superclass, superinterfaces}
use Rattle.cb_hierarchy.specs.Selection.{overrides_openly}

-- a method that a class declares overrides openly a final one of a superclass; neither is static
pub record OverridesFinal (classes : List Class) (methods : List Method) (class : ℕ) : Type 0 where
  pub one : ℕ
  pub other : ℕ
  pub own : Method
  pub final : Method
  pub declares : slice_get methods one ≡ Some own
  pub inherits : slice_get methods other ≡ Some final
  pub of_class : own.declared.class ≡ class
  pub of_superclass : IsAbove (superclass classes) class final.declared.class
  pub alike : own.declared.signature ≡ final.declared.signature
  pub instances : (own.is_static ≡ false) × (final.is_static ≡ false)
  pub marked : final.is_final ≡ true
  pub overridden : overrides_openly classes methods one other ≡ true

-- a class is above itself; its superclass is an interface, or final; one of its superinterfaces is a class; or it overrides a
-- final method
pub data IsBad (classes : List Class) (methods : List Method) (class : ℕ) : Type 0 where
  IsItsOwn : IsAbove (parents classes) class class → IsBad classes methods class
  ExtendsInterface : (other : ℕ) → Contains (superclass classes class) other → is_interface classes other ≡ true → IsBad classes methods class
  ExtendsFinal : (other : ℕ) → Contains (superclass classes class) other → is_final classes other ≡ true → IsBad classes methods class
  ImplementsClass : (other : ℕ) → Contains (superinterfaces classes class) other → is_interface classes other ≡ false → IsBad classes methods class
  Overrides : OverridesFinal classes methods class → IsBad classes methods class

abbrev pub AreGood : List Class → List Method → Type 0
AreGood classes methods = (class : ℕ) → class < length classes → ¬ IsBad classes methods class

-- the first class that is bad, if one is
abbrev pub IsFirstBad : List Class → List Method → Option ℕ → Type 0
IsFirstBad classes methods None = AreGood classes methods
IsFirstBad classes methods (Some class) =
    (class < length classes) × IsBad classes methods class × ((other : ℕ) → other < class → ¬ IsBad classes methods other)
