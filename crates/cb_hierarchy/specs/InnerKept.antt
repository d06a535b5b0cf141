-- What a hierarchy keeps beside its classes.
use Rattle.std.specs.Prelude.{◌≡◌, ℕ, ◌<◌, Bool, List, length, slice_get, Some}
use Rattle.cb_hierarchy.specs.declared.class.Class.{Class}
use Rattle.cb_hierarchy.specs.Above.{IsAcyclic}
use Rattle.cb_hierarchy.specs.Classes.{AreClasses}
use Rattle.cb_hierarchy.specs.Inner.{IsParentsFirst}
use Rattle.cb_hierarchy.specs.Orders.{is_subclass, lookup_order, upwards}
use Rattle.cb_hierarchy.specs.InnerRows.{marked}

-- the classes parents first, their lists upwards and those of lookup, and a row for each that marks its list of lookup
pub record AreKept (classes : List Class) (order : List ℕ) (upward lookup : List (List ℕ)) (rows : List (List Bool)) : Type 0 where
  pub known : AreClasses classes
  pub acyclic : IsAcyclic classes
  pub first : IsParentsFirst classes order
  pub up : (class : ℕ) → class < length classes → slice_get upward class ≡ Some (upwards classes class)
  pub looked : (class : ℕ) → class < length classes → slice_get lookup class ≡ Some (lookup_order classes class)
  pub as_many : length rows ≡ length classes
  pub below : (class other : ℕ) → class < length classes → marked rows class other ≡ is_subclass classes class other
