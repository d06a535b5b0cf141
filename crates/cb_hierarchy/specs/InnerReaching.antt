-- How the table of selected methods is made class by class, which no public clause cites.
use Rattle.std.specs.Prelude.{ℕ, Bool, true, false, List, [], ◌∷◌, not, slice_get, Option, Some, None, length, ◌≡◌, ◌<◌, option_and_then, ◌==◌, ◌&&◌, ◌||◌, if◌then◌else◌, Vec}
use Rattle.std.specs.declared.alloc.Global.{Global}
use Rattle.std.specs.List.{list_any}
use Rattle.cb_hierarchy.specs.declared.class.Class.{Class}
use Rattle.cb_hierarchy.specs.declared.entry.Entry.{Entry}
use Rattle.cb_hierarchy.specs.declared.entry.Entry.TheVariants.{Upwards, Inherited, Absent, Several}
use Rattle.cb_hierarchy.specs.declared.entry.Reached.{Reached}
use Rattle.cb_hierarchy.specs.declared.member.Method.{Method}
use Rattle.cb_hierarchy.specs.declared.member.Visibility.{Visibility}
use Rattle.cb_hierarchy.specs.declared.member.Visibility.TheVariants.{Public, Protected, Package, Private}
use Rattle.cb_hierarchy.specs.declared.selected.Selected.{Selected}
use Rattle.cb_hierarchy.specs.declared.selected.Selected.TheVariants as chosen
use Rattle.cb_hierarchy.specs.Classes.{is_interface}
use Rattle.cb_hierarchy.specs.Members.{method_of}
use Rattle.cb_hierarchy.specs.Orders.{is_subclass}
use Rattle.cb_hierarchy.specs.Resolution.{is_private, method_is, most_specific}
use Rattle.cb_hierarchy.specs.Selection.{declared_upwards, in_one_package, seen}

abbrev pub entry_selected : Entry → Selected
entry_selected (Upwards true is_open method) = chosen.Abstract
entry_selected (Upwards false is_open method) = chosen.Method method
entry_selected (Inherited method) = chosen.Method method
entry_selected Absent = chosen.Abstract
entry_selected Several = chosen.Several

abbrev pub reached_in : Entry → Option Reached
reached_in (Upwards is_abstract is_open method) = Some (record { method = method; is_open = is_open })
reached_in (Inherited method) = None
reached_in Absent = None
reached_in Several = None

-- whether a method is public or protected
abbrev pub is_shown : Visibility → Bool
is_shown Public = true
is_shown Protected = true
is_shown Package = false
is_shown Private = false

-- whether a public or protected method is of the package of another
abbrev pub opens : List Class → Option Method → Option Method → Bool
opens classes (Some one) (Some other) = is_shown one.visibility && in_one_package classes other.declared.class one.declared.class
opens classes one other = false

-- whether neither is private
abbrev pub neither_private : Option Method → Option Method → Bool
neither_private (Some one) (Some other) = not (is_private one.visibility) && not (is_private other.visibility)
neither_private one other = false

-- whether a method overrides another one of which this much is known upwards
abbrev pub can_override : List Class → Bool → Option Method → Option Method → Bool
can_override classes true one other = neither_private one other
can_override classes false one other = seen classes one other

-- one method more, the nearest, where the resolved one is of a class
abbrev pub reach_class : List Class → List Method → ℕ → ℕ → Option Reached → Option Reached
reach_class classes methods resolved method None = if method == resolved then Some (record { method = method; is_open = false }) else None
reach_class classes methods resolved method (Some reached) = Some (record {
  method =
      if (method == resolved) || can_override classes reached.is_open (slice_get methods method) (slice_get methods resolved) then method else reached.method;
  is_open = reached.is_open || opens classes (slice_get methods method) (slice_get methods resolved);
})

-- and where it is of an interface
abbrev pub reach_interface : List Method → ℕ → Option Reached → Option Reached
reach_interface methods method above =
    if method_is methods (λ own. not (is_private own.visibility)) method then Some (record { method = method; is_open = false }) else above

abbrev pub is_of_interface : List Class → List Method → ℕ → Bool
is_of_interface classes methods resolved = method_is methods (λ method. is_interface classes method.declared.class) resolved

abbrev pub reach_more : List Class → List Method → ℕ → ℕ → Option Reached → Option Reached
reach_more classes methods resolved method above =
    if is_of_interface classes methods resolved then reach_interface methods method above else reach_class classes methods resolved method above

-- all of them
abbrev pub reach : List Class → List Method → ℕ → List ℕ → Option Reached
reach classes methods resolved [] = None
reach classes methods resolved (method ∷ above) = reach_more classes methods resolved method (reach classes methods resolved above)

-- the one of a class itself, if it isn't static
abbrev pub reach_own : List Class → List Method → ℕ → Option ℕ → Option Reached → Option Reached
reach_own classes methods resolved None above = above
reach_own classes methods resolved (Some method) above =
    if method_is methods (λ own. not own.is_static) method then reach_more classes methods resolved method above else above

-- what is selected where no method upwards is
abbrev pub entry_among : List ℕ → Entry
entry_among [] = Absent
entry_among (method ∷ []) = Inherited method
entry_among (method ∷ others) = Several

abbrev pub entry_of : List Method → Option Reached → Entry → Entry
entry_of methods None among = among
entry_of methods (Some reached) among = Upwards (method_is methods (λ own. own.is_abstract) reached.method) reached.is_open reached.method

-- the signature of a method
abbrev pub signature_in : Option Method → ℕ
signature_in None = 0
signature_in (Some method) = method.declared.signature

abbrev pub signature_of : List Method → ℕ → ℕ
signature_of methods resolved = signature_in (slice_get methods resolved)

-- the entry of a class and a resolved method
abbrev pub entry_for : List Class → List Method → ℕ → ℕ → Entry
entry_for classes methods class resolved =
    entry_of methods (reach classes methods resolved (declared_upwards classes methods class (signature_of methods resolved)))
    (entry_among (most_specific classes methods class (signature_of methods resolved)))

-- what rows have for a class and a method
abbrev pub entry_in : List (Vec Entry Global) → ℕ → ℕ → Option Entry
entry_in rows class resolved = option_and_then (λ row. slice_get row.items resolved) (slice_get rows class)

abbrev pub reached_at : List (Vec Entry Global) → Option ℕ → ℕ → Option Reached
reached_at rows superclass resolved = option_and_then reached_in (option_and_then (λ class. entry_in rows class resolved) superclass)

-- the entry of a class by the row of its superclass
abbrev pub entry_by : List Class → List Method → List (Vec Entry Global) → Option ℕ → ℕ → ℕ → Entry
entry_by classes methods rows superclass class resolved =
    entry_of methods
    (reach_own classes methods resolved (method_of methods class (signature_of methods resolved)) (reached_at rows superclass resolved))
    (entry_among (most_specific classes methods class (signature_of methods resolved)))

-- the first items of a list, by their places
abbrev pub AreFirst : {X : Type 0} → ℕ → (ℕ → X) → List X → Type 0
AreFirst count expected items = (place : ℕ) → place < count → slice_get items place ≡ Some (expected place)

abbrev pub IsRowBy : List Class → List Method → List (Vec Entry Global) → Option ℕ → ℕ → List Entry → Type 0
IsRowBy classes methods rows superclass class row =
    AreFirst (length methods) (entry_by classes methods rows superclass class) row

-- whether a method is declared by an interface above a class
abbrev pub above_class : List Class → ℕ → Method → Bool
above_class classes class method = is_interface classes method.declared.class && is_subclass classes class method.declared.class

abbrev pub is_above : List Class → List Method → ℕ → ℕ → Bool
is_above classes methods class = method_is methods (above_class classes class)

-- what the superinterfaces of a class have of a signature, if one of them declares one of these methods
abbrev pub is_declared_above : List Class → ℕ → List Method → ℕ → Bool
is_declared_above classes class declared signature = list_any (λ method. (method.declared.signature == signature) && above_class classes class method) declared

abbrev pub among_if : List Class → List Method → ℕ → List Method → ℕ → Option Entry
among_if classes methods class declared signature =
    if is_declared_above classes class declared signature then Some (entry_among (most_specific classes methods class signature)) else None

abbrev pub AreAmong : List Class → List Method → ℕ → List (Option Entry) → Type 0
AreAmong classes methods class among = AreFirst (length methods) (among_if classes methods class methods) among

-- the row of a class is made
abbrev pub IsMade : List Class → List Method → List (Vec Entry Global) → ℕ → Type 0
IsMade classes methods rows class =
    (resolved : ℕ) → resolved < length methods → entry_in rows class resolved ≡ Some (entry_for classes methods class resolved)
