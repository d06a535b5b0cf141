-- Resolution of fields and methods (JVMS §5.4.3.2 to §5.4.3.4), without access control. Where the standard picks any method of
-- the superinterfaces, it is the first in the order of lookup.
use Rattle.std.specs.Prelude.{ℕ, Bool, true, false, List, [], ◌∷◌, map, drop, filter, not, slice_get, Option, Some, None, option_and_then, ◌==◌, ◌&&◌, if◌then◌else◌}
use Rattle.std.specs.List.{flat_map, list_any}
use Rattle.std.specs.Option.{option_or}
use Rattle.cb_hierarchy.specs.declared.class.Class.{Class}
use Rattle.cb_hierarchy.specs.declared.member.Field.{Field}
use Rattle.cb_hierarchy.specs.declared.member.Method.{Method}
use Rattle.cb_hierarchy.specs.declared.member.Visibility.{Visibility}
use Rattle.cb_hierarchy.specs.declared.member.Visibility.TheVariants.{Public, Private}
use Rattle.cb_hierarchy.specs.Classes.{is_interface, listed}
use Rattle.cb_hierarchy.specs.Members.{field_of, method_of}
use Rattle.cb_hierarchy.specs.Orders.{is_subclass, lookup_order, upwards}

-- the first that there is
abbrev pub first_some : {X : Type 0} → List (Option X) → Option X
first_some [] = None
first_some (Some item ∷ items) = Some item
first_some (None ∷ items) = first_some items

-- what is so of the method of a number, if there is that method
abbrev holds_of : (Method → Bool) → Option Method → Bool
holds_of test None = false
holds_of test (Some method) = test method

abbrev pub method_is : List Method → (Method → Bool) → ℕ → Bool
method_is methods test number = holds_of test (slice_get methods number)

abbrev pub is_public : Visibility → Bool
is_public Public = true
is_public other = false

abbrev pub is_private : Visibility → Bool
is_private Private = true
is_private other = false

-- field lookup: the class itself, its superinterfaces, and its superclass, each in the same way (§5.4.3.2)
abbrev pub resolved_field : List Class → List Field → ℕ → ℕ → Option ℕ
resolved_field classes fields class signature = first_some (map (λ number. field_of fields number signature) (lookup_order classes class))

-- the superinterfaces of a class, direct or not, in the order of lookup
abbrev pub all_superinterfaces : List Class → ℕ → List ℕ
all_superinterfaces classes class = filter (is_interface classes) (drop 1 (lookup_order classes class))

-- their methods of a signature that are neither private nor static
abbrev pub is_inherited : Method → Bool
is_inherited method = not (is_private method.visibility) && not method.is_static

abbrev pub superinterface_methods : List Class → List Method → ℕ → ℕ → List ℕ
superinterface_methods classes methods class signature =
    filter (method_is methods is_inherited) (flat_map (λ number. listed (method_of methods number signature)) (all_superinterfaces classes class))

-- whether the class that declares a method is a proper subclass or subinterface of the one that declares another
abbrev below : List Class → Option Method → Option Method → Bool
below classes (Some one) (Some other) = not (one.declared.class == other.declared.class) && is_subclass classes one.declared.class other.declared.class
below classes one other = false

abbrev pub is_declared_below : List Class → List Method → ℕ → ℕ → Bool
is_declared_below classes methods one other = below classes (slice_get methods one) (slice_get methods other)

-- those of them that are maximally specific: none is declared in a subinterface (§5.4.3.3)
abbrev pub most_specific_of : List Class → List Method → List ℕ → List ℕ
most_specific_of classes methods candidates =
    filter (λ method. not (list_any (λ other. is_declared_below classes methods other method) candidates)) candidates

-- and those that aren't abstract
abbrev pub most_specific : List Class → List Method → ℕ → ℕ → List ℕ
most_specific classes methods class signature =
    filter (method_is methods (λ method. not method.is_abstract)) (most_specific_of classes methods (superinterface_methods classes methods class signature))

-- the only one of a list
abbrev pub only_one : {X : Type 0} → List X → Option X
only_one (item ∷ []) = Some item
only_one items = None

abbrev pub first_of : {X : Type 0} → List X → Option X
first_of [] = None
first_of (item ∷ items) = Some item

-- the one that is maximally specific and not abstract, or else any
abbrev pub among_superinterfaces : List Class → List Method → ℕ → ℕ → Option ℕ
among_superinterfaces classes methods class signature =
    option_or (only_one (most_specific classes methods class signature)) (first_of (superinterface_methods classes methods class signature))

-- method lookup in a class: the class itself and its superclasses, and then the superinterfaces (§5.4.3.3)
abbrev pub method_of_class : List Class → List Method → ℕ → ℕ → Option ℕ
method_of_class classes methods class signature =
    option_or (first_some (map (λ number. method_of methods number signature) (upwards classes class))) (among_superinterfaces classes methods class signature)

-- method lookup in an interface: the interface itself, the public methods of Object that aren't static, and then the
-- superinterfaces (§5.4.3.4)
abbrev pub method_of_object : List Method → ℕ → ℕ → Option ℕ
method_of_object methods object signature =
    option_and_then (λ number. if method_is methods (λ method. is_public method.visibility && not method.is_static) number then Some number else None)
    (method_of methods object signature)

abbrev pub method_of_interface : List Class → List Method → ℕ → ℕ → ℕ → Option ℕ
method_of_interface classes methods object interface signature =
    option_or (method_of methods interface signature)
    (option_or (method_of_object methods object signature) (among_superinterfaces classes methods interface signature))

-- method lookup in either
abbrev pub resolved_method : List Class → List Method → ℕ → ℕ → ℕ → Option ℕ
resolved_method classes methods object class signature =
    if is_interface classes class then method_of_interface classes methods object class signature
    else method_of_class classes methods class signature
