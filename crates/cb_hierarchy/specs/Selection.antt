-- Which method is run where one is invoked on an object (JVMS §5.4.5; §6.5 invokevirtual, invokeinterface).
use Rattle.std.specs.Prelude.{ℕ, Bool, true, false, List, [], ◌∷◌, not, filter, slice_get, Option, Some, None, option_and_then, ◌==◌, ◌&&◌, ◌||◌, if◌then◌else◌}
use Rattle.std.specs.List.{flat_map}
use Rattle.cb_hierarchy.specs.declared.class.Class.{Class}
use Rattle.cb_hierarchy.specs.declared.member.Method.{Method}
use Rattle.cb_hierarchy.specs.declared.member.Visibility.{Visibility}
use Rattle.cb_hierarchy.specs.declared.member.Visibility.TheVariants.{Public, Protected, Package, Private}
use Rattle.cb_hierarchy.specs.declared.selected.Selected.{Selected}
use Rattle.cb_hierarchy.specs.declared.selected.Selected.TheVariants as chosen
use Rattle.cb_hierarchy.specs.Classes.{is_interface, listed}
use Rattle.cb_hierarchy.specs.Members.{method_of}
use Rattle.cb_hierarchy.specs.Orders.{upwards}
use Rattle.cb_hierarchy.specs.Resolution.{first_of, is_private, method_is, most_specific}

-- whether two classes are of one run-time package
abbrev pub packages : Option Class → Option Class → Bool
packages (Some one) (Some other) = one.package == other.package
packages one other = false

abbrev pub in_one_package : List Class → ℕ → ℕ → Bool
in_one_package classes one other = packages (slice_get classes one) (slice_get classes other)

-- whether a method of a visibility can be overridden by methods of a class, where it is that of another class
abbrev pub is_seen : List Class → Visibility → ℕ → ℕ → Bool
is_seen classes Public holder class = true
is_seen classes Protected holder class = true
is_seen classes Package holder class = in_one_package classes holder class
is_seen classes Private holder class = false

-- whether a method overrides one of a superclass without another between: it isn't private, and the other can be overridden by
-- methods of its class (§5.4.5)
abbrev pub seen : List Class → Option Method → Option Method → Bool
seen classes (Some one) (Some other) = not (is_private one.visibility) && is_seen classes other.visibility other.declared.class one.declared.class
seen classes one other = false

abbrev pub overrides_openly : List Class → List Method → ℕ → ℕ → Bool
overrides_openly classes methods method other = seen classes (slice_get methods method) (slice_get methods other)

-- the methods of a signature that a class and its superclasses declare, and that aren't static
abbrev pub declared_upwards : List Class → List Method → ℕ → ℕ → List ℕ
declared_upwards classes methods class signature =
    filter (method_is methods (λ method. not method.is_static)) (flat_map (λ number. listed (method_of methods number signature)) (upwards classes class))

-- whether a method overrides another one that stands among those of its signature above it, the nearest first: it overrides it
-- openly, or it overrides openly one between that is or overrides the other
abbrev pub overrides_above : List Class → List Method → ℕ → List ℕ → ℕ → Bool
overrides_above classes methods method [] resolved = false
overrides_above classes methods method (other ∷ above) resolved =
    (overrides_openly classes methods method other && ((other == resolved) || overrides_above classes methods other above resolved))
    || overrides_above classes methods method above resolved

-- or it is that one
abbrev pub overrides : List Class → List Method → ℕ → List ℕ → ℕ → Bool
overrides classes methods method above resolved = (method == resolved) || overrides_above classes methods method above resolved

-- the first of these methods, the nearest first, that overrides the one that was resolved. One of an interface is overridden by
-- each that isn't private
abbrev pub overriding : List Class → List Method → ℕ → List ℕ → Option ℕ
overriding classes methods resolved [] = None
overriding classes methods resolved (method ∷ above) =
    if overrides classes methods method above resolved then Some method else overriding classes methods resolved above

abbrev pub implementing : List Method → List ℕ → Option ℕ
implementing methods [] = None
implementing methods (method ∷ above) =
    if method_is methods (λ own. not (is_private own.visibility)) method then Some method else implementing methods above

-- what a method that was found comes to
abbrev pub found : List Method → ℕ → Selected
found methods method = if method_is methods (λ own. own.is_abstract) method then chosen.Abstract else chosen.Method method

-- what the maximally-specific methods of the superinterfaces that aren't abstract come to
abbrev pub found_among : List ℕ → Selected
found_among [] = chosen.Abstract
found_among (method ∷ []) = chosen.Method method
found_among (method ∷ others) = chosen.Several

-- the first method upwards, or else the one of the superinterfaces
abbrev pub first_or : List Method → Option ℕ → List ℕ → Selected
first_or methods (Some method) others = found methods method
first_or methods None others = found_among others

-- the method of a signature that is selected from a class upwards, the nearest first, where a private one counts too, and else of the
-- superinterfaces (§6.5 invokespecial)
abbrev pub selected_from : List Class → List Method → ℕ → ℕ → Selected
selected_from classes methods class signature =
    first_or methods (first_of (declared_upwards classes methods class signature)) (most_specific classes methods class signature)

-- the method that is selected on an object of a class, where this method was resolved
abbrev pub of_method : List Class → List Method → ℕ → ℕ → Option Method → Selected
of_method classes methods class resolved None = chosen.Abstract
of_method classes methods class resolved (Some method) =
    first_or methods
    (if is_interface classes method.declared.class then implementing methods (declared_upwards classes methods class method.declared.signature)
    else overriding classes methods resolved (declared_upwards classes methods class method.declared.signature))
    (most_specific classes methods class method.declared.signature)

abbrev pub selected : List Class → List Method → ℕ → ℕ → Selected
selected classes methods class resolved = of_method classes methods class resolved (slice_get methods resolved)

-- what a table of selected methods has for a class and a method
abbrev pub entry_at : List (List Selected) → ℕ → ℕ → Option Selected
entry_at rows class method = option_and_then (λ row. slice_get row method) (slice_get rows class)
