-- The classes that are initialised before a class (JVMS §5.5, step 7).
use Rattle.std.specs.Prelude.{ℕ, Bool, List, [], ◌∷◌, ◌++◌, length, filter, not, ◌==◌, ◌&&◌, if◌then◌else◌}
use Rattle.std.specs.List.{flat_map, list_any}
use Rattle.cb_hierarchy.specs.declared.class.Class.{Class}
use Rattle.cb_hierarchy.specs.declared.member.Method.{Method}
use Rattle.cb_hierarchy.specs.Classes.{is_interface, superclass, superinterfaces}
use Rattle.cb_hierarchy.specs.Orders.{distinct, in_turns}

-- a class or interface declares a method that is neither abstract nor static
abbrev pub declares_body : List Method → ℕ → Bool
declares_body methods class = list_any (λ method. (method.declared.class == class) && (not method.is_abstract && not method.is_static)) methods

-- the superinterfaces of an interface, each behind its own, and the interface itself
abbrev pub enumerated_by : List Class → (ℕ → List ℕ) → ℕ → List ℕ
enumerated_by classes before interface = distinct (flat_map before (superinterfaces classes interface) ++ interface ∷ [])

abbrev pub enumerated : List Class → ℕ → List ℕ
enumerated classes interface = in_turns (enumerated_by classes) (length classes) interface

-- of a class its superclass, and then those superinterfaces, of the ones that it names and theirs, that declare such a method.
-- None of an interface
abbrev pub initialised_before : List Class → List Method → ℕ → List ℕ
initialised_before classes methods class =
    if is_interface classes class then []
    else superclass classes class ++ filter (declares_body methods) (distinct (flat_map (enumerated classes) (superinterfaces classes class)))
