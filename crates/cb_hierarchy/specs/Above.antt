-- What is above a class: its superclass or a superinterface, directly or through others (JVMS §5.3.5, §5.4.5).
use Rattle.std.specs.Prelude.{ℕ, List}
use Rattle.std.specs.List.{Contains}
use Rattle.cb_hierarchy.specs.declared.class.Class.{Class}
use Rattle.cb_hierarchy.specs.Classes.{parents}

-- by what each class names directly
pub data IsAbove (parents : ℕ → List ℕ) : ℕ → ℕ → Type 0 where
  Direct : (class parent : ℕ) → Contains (parents class) parent → IsAbove parents class parent
  Through : (class parent other : ℕ) → Contains (parents class) parent → IsAbove parents parent other → IsAbove parents class other

-- no class is above itself
abbrev pub IsAcyclic : List Class → Type 0
IsAcyclic classes = (class : ℕ) → ¬ IsAbove (parents classes) class class
