-- How the classes that can't be in a hierarchy are found, which no public clause cites.
use Rattle.std.specs.Prelude.{◌≡◌, ℕ, ◌<◌, Bool, true, not, ◌==◌, ◌&&◌, ◌||◌, List}
use Rattle.std.specs.List.{Contains, list_any}
use Rattle.cb_hierarchy.specs.declared.class.Class.{Class}
use Rattle.cb_hierarchy.specs.declared.member.Method.{Method}
use Rattle.cb_hierarchy.specs.Classes.{is_final, is_interface, superclass, superinterfaces}
use Rattle.cb_hierarchy.specs.Inner.{has, list_at}
use Rattle.cb_hierarchy.specs.Resolution.{is_private, method_is}
use Rattle.cb_hierarchy.specs.InnerRows.{marked}
use Rattle.cb_hierarchy.specs.Selection.{is_seen}

-- whether a method of a signature is final and not static
abbrev pub is_final_of : List Method → ℕ → ℕ → Bool
is_final_of methods signature number =
    method_is methods (λ method. (method.declared.signature == signature) && (method.is_final && not method.is_static)) number

-- for each signature a list of just these methods among the first so many
pub record AreFinals (methods : List Method) (count : ℕ) (lists : List (List ℕ)) : Type 0 where
  pub only : (signature number : ℕ) → Contains (list_at lists signature) number → is_final_of methods signature number ≡ true
  pub all : (signature number : ℕ) → number < count → is_final_of methods signature number ≡ true → Contains (list_at lists signature) number

-- whether a method overrides openly one of a class above, or one of several
abbrev pub overrides_this : List Class → List (List Bool) → Method → Method → Bool
overrides_this classes above own other =
    marked above own.declared.class other.declared.class
    && (not (is_private own.visibility) && is_seen classes other.visibility other.declared.class own.declared.class)

abbrev pub overrides_some : List Class → List Method → List (List Bool) → Method → List ℕ → Bool
overrides_some classes methods above own numbers = list_any (method_is methods (overrides_this classes above own)) numbers

-- whether the method of a number overrides openly one of those that stand in the list of its signature
abbrev pub overrides_final : List Class → List Method → List (List Bool) → List (List ℕ) → ℕ → Bool
overrides_final classes methods above lists number =
    method_is methods (λ own. not own.is_static && overrides_some classes methods above own (list_at lists own.declared.signature)) number

-- whether a superclass is an interface or final, and whether a superinterface is a class
abbrev pub extends_badly : List Class → List ℕ → Bool
extends_badly classes numbers = list_any (λ other. is_interface classes other || is_final classes other) numbers

abbrev pub implements_badly : List Class → List ℕ → Bool
implements_badly classes numbers = list_any (λ other. not (is_interface classes other)) numbers

-- whether one of the causes is there: above is marked what is above each class, and those that override a final method
abbrev pub is_bad : List Class → List (List Bool) → List Bool → ℕ → Bool
is_bad classes above overriding number =
    (marked above number number || has overriding number)
    || (extends_badly classes (superclass classes number) || implements_badly classes (superinterfaces classes number))
