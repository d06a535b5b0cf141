-- Members that are found, and methods that are selected, have numbers below the count of members.
use Rattle.std.proofs.Common.{◌≡◌, subst, refl, IfSome, ℕ, ◌<◌, Bool, true, false, ◌&&◌, ◌==◌, not, if◌then◌else◌, List, [], ◌∷◌, filter, length, map, Option, None, Some, option_and_then, option_map}
use Rattle.std.specs.Prelude.{slice_get}
use Rattle.std.specs.List.{AllByRecursion, flat_map, list_any}
use Rattle.std.specs.Option.{option_or}
use Rattle.std.proofs.lemmas.List.{length-map}
use Rattle.std.proofs.lemmas.List.Elements.{All-filter, All-from_recursion, recursion_from_All}
use Rattle.cb_hierarchy.specs.declared.class.Class.{Class}
use Rattle.cb_hierarchy.specs.declared.member.Declared.{Declared}
use Rattle.cb_hierarchy.specs.declared.member.Method.{Method}
use Rattle.cb_hierarchy.specs.declared.selected.Selected.TheVariants as chosen
use Rattle.cb_hierarchy.specs.Classes.{is_interface, listed}
use Rattle.cb_hierarchy.specs.Members.{method_of, place_of}
use Rattle.cb_hierarchy.specs.Orders.{upwards}
use Rattle.cb_hierarchy.specs.Resolution.{all_superinterfaces, among_superinterfaces, first_of, first_some, is_declared_below, is_inherited, is_private, is_public, method_is, method_of_class, method_of_interface, method_of_object, most_specific, most_specific_of, only_one, resolved_method, superinterface_methods}
use Rattle.cb_hierarchy.specs.Selection.{declared_upwards, first_or, found, found_among, implementing, of_method, overrides, overriding, selected, selected_from}
use Rattle.cb_link.specs.Calls.{IsOneOf}
use Rattle.cb_link.proofs.Ranged.{all_lists}
use Rattle.cb_link.proofs.SitePlaces.{below_length}

-- what is so of what is found, if anything is
pub whenever : {X : Type 0} (P : X → Type 0) (some : Option X) → ((x : X) → some ≡ Some x → P x) → IfSome some P
whenever P None each = tt
whenever P (Some x) each = each x refl

pub chained : {X Y : Type 0} (P : Y → Type 0) (f : X → Option Y) (some : Option X) → ((x : X) → IfSome (f x) P) → IfSome (option_and_then f some) P
chained P f None each = tt
chained P f (Some x) each = each x

pub mapped : {X Y : Type 0} (P : Y → Type 0) (f : X → Y) (some : Option X) → IfSome some (λ x. P (f x)) → IfSome (option_map f some) P
mapped P f None is = tt
mapped P f (Some x) is = is

pub either : {X : Type 0} (P : X → Type 0) (one other : Option X) → IfSome one P → IfSome other P → IfSome (option_or one other) P
either P None other first second = second
either P (Some x) other first second = first

tested : {X : Type 0} (P : X → Type 0) (test : Bool) (x : X) (other : Option X) → P x → IfSome other P → IfSome (if test then Some x else other) P
tested P true x other one rest = one
tested P false x other one rest = rest

first_is : {X Y : Type 0} (P : Y → Type 0) (f : X → Option Y) (items : List X) → ((x : X) → IfSome (f x) P) → IfSome (first_some (map f items)) P
first_is P f [] each = tt
first_is {X} {Y} P f (x ∷ items) each = go (f x) (each x) (first_is P f items each) where
  go : (some : Option Y) → IfSome some P → IfSome (first_some (map f items)) P → IfSome (first_some (some ∷ map f items)) P
  go None here rest = rest
  go (Some y) here rest = here

-- of the members of lists
listed_is : {X : Type 0} (P : X → Type 0) (some : Option X) → IfSome some P → AllByRecursion P (listed some)
listed_is P None is = tt
listed_is P (Some x) is = (is, tt)

only_is : {X : Type 0} (P : X → Type 0) (items : List X) → AllByRecursion P items → IfSome (only_one items) P
only_is P [] all = tt
only_is P (item ∷ []) all = all.0
only_is P (item ∷ other ∷ items) all = tt

head_is : {X : Type 0} (P : X → Type 0) (items : List X) → AllByRecursion P items → IfSome (first_of items) P
head_is P [] all = tt
head_is P (item ∷ items) all = all.0

kept : {X : Type 0} (P : X → Type 0) (test : X → Bool) (items : List X) → AllByRecursion P items → AllByRecursion P (filter test items)
kept P test items all = recursion_from_All P (filter test items) (All-filter test P items (All-from_recursion P items all))

-- the number of a member is a place in the list of members
place_low : {Member : Type 0} (declared : Member → Declared) (members : List Member) (class signature : ℕ)
    → IfSome (place_of (map declared members) class signature) (λ number. number < length members)
place_low declared members class signature =
    subst (λ count. IfSome (place_of (map declared members) class signature) (λ number. number < count)) (length-map members declared)
    (whenever (λ number. number < length (map declared members)) (place_of (map declared members) class signature)
    (below_length (λ (member : Declared). (member.class == class) && (member.signature == signature)) (map declared members)))

module _ (classes : List Class) (methods : List Method) where
  abbrev Low : ℕ → Type 0
  Low number = number < length methods

  method_low : (class signature : ℕ) → IfSome (method_of methods class signature) Low
  method_low class signature = place_low (λ (method : Method). method.declared) methods class signature

  -- those that classes declare and a test keeps
  declared_low : (test : ℕ → Bool) (numbers : List ℕ) (signature : ℕ) → AllByRecursion Low (filter test (flat_map (λ number. listed (method_of methods number signature)) numbers))
  declared_low test numbers signature =
      kept Low test (flat_map (λ number. listed (method_of methods number signature)) numbers)
      (all_lists Low (λ number. listed (method_of methods number signature)) numbers (λ number. listed_is Low (method_of methods number signature) (method_low number signature)))

  inherited_low : (class signature : ℕ) → AllByRecursion Low (superinterface_methods classes methods class signature)
  inherited_low class signature = declared_low (method_is methods is_inherited) (all_superinterfaces classes class) signature

  pub specific_low : (class signature : ℕ) → AllByRecursion Low (most_specific classes methods class signature)
  specific_low class signature =
      let candidates = superinterface_methods classes methods class signature in
      kept Low (method_is methods (λ method. not method.is_abstract)) (most_specific_of classes methods candidates)
      (kept Low (λ method. not (list_any (λ other. is_declared_below classes methods other method) candidates)) candidates (inherited_low class signature))

  -- of methods that are found
  among_low : (class signature : ℕ) → IfSome (among_superinterfaces classes methods class signature) Low
  among_low class signature =
      either Low (only_one (most_specific classes methods class signature)) (first_of (superinterface_methods classes methods class signature))
      (only_is Low (most_specific classes methods class signature) (specific_low class signature))
      (head_is Low (superinterface_methods classes methods class signature) (inherited_low class signature))

  of_class_low : (class signature : ℕ) → IfSome (method_of_class classes methods class signature) Low
  of_class_low class signature =
      either Low (first_some (map (λ number. method_of methods number signature) (upwards classes class))) (among_superinterfaces classes methods class signature)
      (first_is Low (λ number. method_of methods number signature) (upwards classes class) (λ number. method_low number signature))
      (among_low class signature)

  abbrev is_open : ℕ → Bool
  is_open = method_is methods (λ method. is_public method.visibility && not method.is_static)

  of_object_low : (object signature : ℕ) → IfSome (method_of_object methods object signature) Low
  of_object_low object signature = go (method_of methods object signature) (method_low object signature) where
    go : (some : Option ℕ) → IfSome some Low → IfSome (option_and_then (λ number. if is_open number then Some number else None) some) Low
    go None low = tt
    go (Some number) low = tested Low (is_open number) number None low tt

  of_interface_low : (object class signature : ℕ) → IfSome (method_of_interface classes methods object class signature) Low
  of_interface_low object class signature =
      let among = among_superinterfaces classes methods class signature in
      either Low (method_of methods class signature) (option_or (method_of_object methods object signature) among) (method_low class signature)
      (either Low (method_of_object methods object signature) among (of_object_low object signature) (among_low class signature))

  pub resolved_low : (object class signature : ℕ) → IfSome (resolved_method classes methods object class signature) Low
  resolved_low object class signature = go (is_interface classes class) where
    go : (test : Bool) → IfSome (if test then method_of_interface classes methods object class signature else method_of_class classes methods class signature) Low
    go true = of_interface_low object class signature
    go false = of_class_low class signature

  -- of those that are selected
  overriding_low : (resolved : ℕ) (numbers : List ℕ) → AllByRecursion Low numbers → IfSome (overriding classes methods resolved numbers) Low
  overriding_low resolved [] all = tt
  overriding_low resolved (method ∷ above) all =
      tested Low (overrides classes methods method above resolved) method (overriding classes methods resolved above) all.0 (overriding_low resolved above all.1)

  pub found_low : (method : ℕ) → Low method → IsOneOf (length methods) (found methods method)
  found_low method low = go (method_is methods (λ own. own.is_abstract) method) where
    go : (test : Bool) → IsOneOf (length methods) (if test then chosen.Abstract else chosen.Method method)
    go true = tt
    go false = low

  pub found_among_low : (others : List ℕ) → AllByRecursion Low others → IsOneOf (length methods) (found_among others)
  found_among_low [] all = tt
  found_among_low (method ∷ []) all = all.0
  found_among_low (method ∷ other ∷ others) all = tt

  first_low : (some : Option ℕ) (others : List ℕ) → IfSome some Low → AllByRecursion Low others → IsOneOf (length methods) (first_or methods some others)
  first_low None others low all = found_among_low others all
  first_low (Some method) others low all = found_low method low

  pub from_low : (class signature : ℕ) → IsOneOf (length methods) (selected_from classes methods class signature)
  from_low class signature =
      let upward : List ℕ = declared_upwards classes methods class signature in
      first_low (first_of upward) (most_specific classes methods class signature)
      (head_is Low upward (declared_low (method_is methods (λ own. not own.is_static)) (upwards classes class) signature))
      (specific_low class signature)

  implementing_low : (numbers : List ℕ) → AllByRecursion Low numbers → IfSome (implementing methods numbers) Low
  implementing_low [] all = tt
  implementing_low (method ∷ above) all =
      tested Low (method_is methods (λ own. not (is_private own.visibility)) method) method (implementing methods above) all.0 (implementing_low above all.1)

  nearest_low : (test : Bool) (resolved : ℕ) (numbers : List ℕ) → AllByRecursion Low numbers
      → IfSome (if test then implementing methods numbers else overriding classes methods resolved numbers) Low
  nearest_low true resolved numbers all = implementing_low numbers all
  nearest_low false resolved numbers all = overriding_low resolved numbers all

  pub selected_low : (class resolved : ℕ) → IsOneOf (length methods) (selected classes methods class resolved)
  selected_low class resolved = go (slice_get methods resolved) where
    go : (some : Option Method) → IsOneOf (length methods) (of_method classes methods class resolved some)
    go None = tt
    go (Some method) =
        let signature = method.declared.signature in
        let test : Bool = is_interface classes method.declared.class in
        let upward : List ℕ = declared_upwards classes methods class signature in
        first_low (if test then implementing methods upward else overriding classes methods resolved upward) (most_specific classes methods class signature)
        (nearest_low test resolved upward (declared_low (method_is methods (λ own. not own.is_static)) (upwards classes class) signature))
        (specific_low class signature)
