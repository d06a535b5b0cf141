-- How the lists of the classes that are initialised before each are made, which no public clause cites.
use Rattle.std.specs.Prelude.{◌≡◌, ℕ, ◌<◌, Bool, List, [], ◌++◌, filter, slice_get, Some, if◌then◌else◌}
use Rattle.std.specs.List.{Contains, flat_map}
use Rattle.cb_hierarchy.specs.declared.class.Class.{Class}
use Rattle.cb_hierarchy.specs.Classes.{listed}
use Rattle.cb_hierarchy.specs.Orders.{distinct}

-- by which classes declare such a method, and by the lists of the interfaces
abbrev pub before_by : (ℕ → Bool) → (ℕ → List ℕ) → Class → List ℕ
before_by declares enumerated class =
    if class.is_interface then [] else listed class.superclass ++ filter declares (distinct (flat_map enumerated class.interfaces))

-- the interfaces that classes name have numbers below a limit
abbrev pub NameBelow : List Class → ℕ → Type 0
NameBelow classes limit = (place number : ℕ) (class : Class) → slice_get classes place ≡ Some class → Contains class.interfaces number → number < limit
