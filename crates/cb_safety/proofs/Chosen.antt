-- The methods that are selected: each is declared by the class itself or above it, has the signature that was asked for, and is of objects.
use Rattle.std.proofs.Common.{◌≡◌, ◌∙◌, ◌⊎◌, inl, inr, ap, refl, sym, subst, arith, ℕ, zero, suc, ◌+◌, ◌<◌, ◌==◌, Bool, true, false, cond, not, ◌||◌, ◌&&◌, List, [], ◌∷◌, length, map, Option, Some, None, option_and_then, position, slice_get, if◌then◌else◌}
use Rattle.std.specs.Prelude.{IfSome, drop, filter}
use Rattle.std.specs.Option.{option_or}
use Rattle.std.specs.List.{AllByRecursion, Contains, flat_map, list_any}
use Rattle.std.proofs.lemmas.Bool.{and_parts, eq-eqb, eqb-true, false≢true, or_left, or_right}
use Rattle.std.proofs.lemmas.List.Elements.{Contains-append_left}
use Rattle.std.proofs.lemmas.Option.{same_Some, slice_get-map}
use Rattle.cb_hierarchy.specs.declared.class.Class.{Class}
use Rattle.cb_hierarchy.specs.declared.member.Declared.{Declared}
use Rattle.cb_hierarchy.specs.declared.member.Method.{Method}
use Rattle.cb_hierarchy.specs.declared.selected.Selected.{Selected}
use Rattle.cb_hierarchy.specs.declared.selected.Selected.TheVariants as chosen
use Rattle.cb_hierarchy.specs.Above.{Direct, IsAbove, IsAcyclic, Through}
use Rattle.cb_hierarchy.specs.Classes.{is_interface, listed, parents, superclass, superinterfaces}
use Rattle.cb_hierarchy.specs.Members.{method_of}
use Rattle.cb_hierarchy.specs.Orders.{in_turns, is_subclass, lookup_order, upwards, upwards_by}
use Rattle.cb_hierarchy.specs.Resolution.{all_superinterfaces, among_superinterfaces, first_of, first_some, is_declared_below, is_inherited, is_private, is_public, method_is, method_of_class, method_of_interface, method_of_object, most_specific, most_specific_of, only_one, resolved_method, superinterface_methods}
use Rattle.cb_hierarchy.specs.Selection.{declared_upwards, first_or, found, found_among, implementing, overrides, overriding, selected}
use Rattle.cb_link.proofs.Laws.{either}
use Rattle.cb_safety.proofs.Assigned.{mapped, never}
use Rattle.cb_safety.proofs.Lists.{all_filtered, all_given}
use Rattle.cb_safety.proofs.Searching.{all_weaker, position_here, position_later}
use Rattle.cb_safety.proofs.Subclasses.{all_looked, ends, own_looked, stands}

-- ---- items of lists

-- where the first stands that passes
pub record IsPosition {Item : Type 0} (test : Item → Bool) (items : List Item) (place : ℕ) : Type 0 where
  pub item : Item
  pub there : slice_get items place ≡ Some item
  pub passes : test item ≡ true

pub position_there : {Item : Type 0} (test : Item → Bool) (items : List Item) (place : ℕ) → position test items ≡ Some place → IsPosition test items place
position_there test [] place is = never is
position_there {Item} test (first ∷ items) place is = go (test first) refl (position_there test items) where
  go : (passes : Bool) → test first ≡ passes → ((place : ℕ) → position test items ≡ Some place → IsPosition test items place) → IsPosition test (first ∷ items) place
  go true here later =
      subst (IsPosition test (first ∷ items)) (same_Some 0 place (sym (position_here test first items here) ∙ is)) (record { item = first; there = refl; passes = here })
  go false here later =
      mapped (λ (turn : ℕ). 1 + turn) (position test items) place (sym (position_later test first items here) ∙ is)
      (λ turn found same.
      let rest : IsPosition test items turn = later turn found in
      subst (IsPosition test (first ∷ items)) (let next : suc turn ≡ place = omega (arith, same) in next)
      (record { item = rest.item; there = rest.there; passes = rest.passes }))

-- what is kept by a filter passes
all_pass_kept : {Item : Type 0} (P : Item → Type 0) (keeps : Item → Bool) (items : List Item) → AllByRecursion P items → AllByRecursion (λ item. P item × (keeps item ≡ true)) (filter keeps items)
all_pass_kept P keeps [] all = tt
all_pass_kept {Item} P keeps (item ∷ items) all = go (keeps item) refl (all_pass_kept P keeps items all.1) where
  go : (kept : Bool) → keeps item ≡ kept → AllByRecursion (λ item. P item × (keeps item ≡ true)) (filter keeps items)
      → AllByRecursion (λ item. P item × (keeps item ≡ true)) (cond kept (item ∷ filter keeps items) (filter keeps items))
  go true is rest = ((all.0, is), rest)
  go false is rest = rest

all_dropped : {Item : Type 0} (P : Item → Type 0) (count : ℕ) (items : List Item) → AllByRecursion P items → AllByRecursion P (drop count items)
all_dropped P zero items all = all
all_dropped P (suc count) [] all = tt
all_dropped P (suc count) (item ∷ items) all = all_dropped P count items all.1

later_contains : {Item : Type 0} (first : Item) (items : List Item) (item : Item) → Contains items item → Contains (first ∷ items) item
later_contains first items item (place, low, is) = (suc place, omega (arith, low), is)

all_contained : {Item : Type 0} (items : List Item) → AllByRecursion (λ item. Contains items item) items
all_contained [] = tt
all_contained {Item} (first ∷ items) =
    ((0, omega arith, refl), all_weaker (λ (item : Item). Contains items item) (λ (item : Item). Contains (first ∷ items) item) (later_contains first items) items (all_contained items))

all_stand : (numbers : List ℕ) → AllByRecursion (λ number. stands number numbers ≡ true) numbers
all_stand [] = tt
all_stand (first ∷ numbers) = (
  or_left (first == first) (stands first numbers) (eq-eqb first first refl),
  all_weaker (λ (number : ℕ). stands number numbers ≡ true) (λ (number : ℕ). stands number (first ∷ numbers) ≡ true) (λ number is. or_right (first == number) (stands number numbers) is)
      numbers (all_stand numbers),
)

-- what is so of a method, if it is there
abbrev holds_of : (Method → Bool) → Option Method → Bool
holds_of test None = false
holds_of test (Some method) = test method

-- the method that is found, where it isn't abstract
pub found_is : (methods : List Method) (number other : ℕ) → found methods number ≡ chosen.Method other → number ≡ other
found_is methods number other is = go (method_is methods (λ (method : Method). method.is_abstract) number) is where
  go : (test : Bool) → (if test then chosen.Abstract else chosen.Method number) ≡ chosen.Method other → number ≡ other
  go true is = absurd (cc is)
  go false is = cc

-- ---- the classes from one upwards

module _ (classes : List Class) where
  abbrev OwnOrAbove : ℕ → ℕ → Type 0
  OwnOrAbove class other = (class ≡ other) ⊎ IsAbove (parents classes) class other

  by_parent : (class parent other : ℕ) → Contains (parents classes class) parent → OwnOrAbove parent other → OwnOrAbove class other
  by_parent class parent other among (inl same) = inr (subst (λ (last : ℕ). IsAbove (parents classes) class last) same (Direct class parent among))
  by_parent class parent other among (inr above) = inr (Through class parent other among above)

  all_climbed : (turns class : ℕ) → AllByRecursion (OwnOrAbove class) (in_turns (upwards_by classes) turns class)
  all_climbed zero class = tt
  all_climbed (suc turns) class = (
    inl refl,
    all_given (λ (parent : ℕ). Contains (superclass classes class) parent) (OwnOrAbove class) (in_turns (upwards_by classes) turns) (superclass classes class)
        (λ parent among. all_weaker (OwnOrAbove parent) (OwnOrAbove class)
        (λ other is. by_parent class parent other (Contains-append_left (superclass classes class) (superinterfaces classes class) parent among) is)
        (in_turns (upwards_by classes) turns parent) (all_climbed turns parent)) (all_contained (superclass classes class)),
  )

  module _ (acyclic : IsAcyclic classes) (low : (class parent : ℕ) → Contains (parents classes class) parent → parent < length classes) where
    own_or_above_under : (class other : ℕ) → class < length classes → OwnOrAbove class other → is_subclass classes class other ≡ true
    own_or_above_under class other within (inl same) =
        subst (λ (other : ℕ). is_subclass classes class other ≡ true) same (own_looked classes (length classes) class (ends classes acyclic low class within))
    own_or_above_under class other within (inr above) = all_looked classes (length classes) class other (ends classes acyclic low class within) above

    all_under : (class : ℕ) → class < length classes → AllByRecursion (λ other. is_subclass classes class other ≡ true) (upwards classes class)
    all_under class within =
        all_weaker (OwnOrAbove class) (λ (other : ℕ). is_subclass classes class other ≡ true) (λ other is. own_or_above_under class other within is) (upwards classes class)
        (all_climbed (length classes) class)

    pub stands_under : (class other : ℕ) → class < length classes → stands other (upwards classes class) ≡ true → is_subclass classes class other ≡ true
    stands_under class other within is = each (upwards classes class) (all_under class within) is where
      each : (numbers : List ℕ) → AllByRecursion (λ (other : ℕ). is_subclass classes class other ≡ true) numbers → stands other numbers ≡ true → is_subclass classes class other ≡ true
      each [] all is = absurd (false≢true is)
      each (first ∷ numbers) all is = go (first == other) refl is (each numbers all.1) where
        go : (test : Bool) → (first == other) ≡ test → (test || stands other numbers) ≡ true → (stands other numbers ≡ true → is_subclass classes class other ≡ true)
            → is_subclass classes class other ≡ true
        go true same is later = subst (λ (other : ℕ). is_subclass classes class other ≡ true) (eqb-true first other same) all.0
        go false same is later = later is

    all_under_interfaces : (class : ℕ) → AllByRecursion (λ other. is_subclass classes class other ≡ true) (all_superinterfaces classes class)
    all_under_interfaces class =
        all_filtered (λ (other : ℕ). is_subclass classes class other ≡ true) (is_interface classes) (drop 1 (lookup_order classes class))
        (all_dropped (λ (other : ℕ). is_subclass classes class other ≡ true) 1 (lookup_order classes class) (all_stand (lookup_order classes class)))

    -- ---- the methods that these declare

    module _ (methods : List Method) where
      record IsUnder (class signature number : ℕ) : Type 0 where
        pub method : Method
        pub there : slice_get methods number ≡ Some method
        pub signature_is : method.declared.signature ≡ signature
        pub under : is_subclass classes class method.declared.class ≡ true

      pub record IsChosen (class signature number : ℕ) : Type 0 where
        pub method : Method
        pub there : slice_get methods number ≡ Some method
        pub signature_is : method.declared.signature ≡ signature
        pub under : is_subclass classes class method.declared.class ≡ true
        pub of_objects : method.is_static ≡ false

      record IsDeclaredBy (declaring signature number : ℕ) : Type 0 where
        pub method : Method
        pub there : slice_get methods number ≡ Some method
        pub class_is : method.declared.class ≡ declaring
        pub signature_is : method.declared.signature ≡ signature

      declared_by : (declaring signature number : ℕ) → method_of methods declaring signature ≡ Some number → IsDeclaredBy declaring signature number
      declared_by declaring signature number is =
          let at : IsPosition (λ (member : Declared). (member.class == declaring) && (member.signature == signature)) (map (λ (method : Method). method.declared) methods) number =
          position_there (λ (member : Declared). (member.class == declaring) && (member.signature == signature)) (map (λ (method : Method). method.declared) methods) number is in
          let both = and_parts (at.item.class == declaring) (at.item.signature == signature) at.passes in
          mapped (λ (method : Method). method.declared) (slice_get methods number) at.item (sym (slice_get-map (λ (method : Method). method.declared) methods number) ∙ at.there)
          (λ method found same. record {
            method = method;
            there = found;
            class_is = ap (λ (own : Declared). own.class) same ∙ eqb-true at.item.class declaring both.0;
            signature_is = ap (λ (own : Declared). own.signature) same ∙ eqb-true at.item.signature signature both.1;
          })

      declared_under : (class declaring signature number : ℕ) → is_subclass classes class declaring ≡ true → method_of methods declaring signature ≡ Some number
          → IsUnder class signature number
      declared_under class declaring signature number under is =
          let own : IsDeclaredBy declaring signature number = declared_by declaring signature number is in
          record {
            method = own.method;
            there = own.there;
            signature_is = own.signature_is;
            under = subst (λ (other : ℕ). is_subclass classes class other ≡ true) (sym own.class_is) under;
          }

      listed_under : (class declaring signature : ℕ) → is_subclass classes class declaring ≡ true → AllByRecursion (IsUnder class signature) (listed (method_of methods declaring signature))
      listed_under class declaring signature under = go (method_of methods declaring signature) refl where
        go : (found : Option ℕ) → method_of methods declaring signature ≡ found → AllByRecursion (IsUnder class signature) (listed found)
        go None is = tt
        go (Some number) is = (declared_under class declaring signature number under is, tt)

      of_objects : (class signature number : ℕ) (test : Method → Bool) → ((method : Method) → test method ≡ true → method.is_static ≡ false)
          → IsUnder class signature number × (method_is methods test number ≡ true) → IsChosen class signature number
      of_objects class signature number test says both =
          let own : IsUnder class signature number = both.0 in
          record {
            method = own.method;
            there = own.there;
            signature_is = own.signature_is;
            under = own.under;
            of_objects = says own.method (sym (ap (holds_of test) own.there) ∙ both.1);
          }

      not_static : (static : Bool) → not static ≡ true → static ≡ false
      not_static true is = absurd (false≢true is)
      not_static false is = refl

      chosen_upwards : (class signature : ℕ) → class < length classes → AllByRecursion (IsChosen class signature) (declared_upwards classes methods class signature)
      chosen_upwards class signature within =
          let named : List ℕ = flat_map (λ (number : ℕ). listed (method_of methods number signature)) (upwards classes class) in
          all_weaker (λ (number : ℕ). IsUnder class signature number × (method_is methods (λ (method : Method). not method.is_static) number ≡ true)) (IsChosen class signature)
          (λ number both. of_objects class signature number (λ (method : Method). not method.is_static) (λ method is. not_static method.is_static is) both)
          (declared_upwards classes methods class signature)
          (all_pass_kept (IsUnder class signature) (method_is methods (λ (method : Method). not method.is_static)) named
          (all_given (λ (other : ℕ). is_subclass classes class other ≡ true) (IsUnder class signature) (λ (number : ℕ). listed (method_of methods number signature)) (upwards classes class)
          (λ other under. listed_under class other signature under) (all_under class within)))

      chosen_inherited : (class signature : ℕ) → AllByRecursion (IsChosen class signature) (superinterface_methods classes methods class signature)
      chosen_inherited class signature =
          let named : List ℕ = flat_map (λ (number : ℕ). listed (method_of methods number signature)) (all_superinterfaces classes class) in
          all_weaker (λ (number : ℕ). IsUnder class signature number × (method_is methods is_inherited number ≡ true)) (IsChosen class signature)
          (λ number both. of_objects class signature number is_inherited
          (λ method is. not_static method.is_static (and_parts (not (is_private method.visibility)) (not method.is_static) is).1) both)
          (superinterface_methods classes methods class signature)
          (all_pass_kept (IsUnder class signature) (method_is methods is_inherited) named
          (all_given (λ (other : ℕ). is_subclass classes class other ≡ true) (IsUnder class signature) (λ (number : ℕ). listed (method_of methods number signature)) (all_superinterfaces classes class)
          (λ other under. listed_under class other signature under) (all_under_interfaces class)))

      chosen_above : (class signature : ℕ) → AllByRecursion (IsChosen class signature) (most_specific classes methods class signature)
      chosen_above class signature =
          let named : List ℕ = superinterface_methods classes methods class signature in
          all_filtered (IsChosen class signature) (method_is methods (λ (method : Method). not method.is_abstract)) (most_specific_of classes methods named)
          (all_filtered (IsChosen class signature) (λ (method : ℕ). not (list_any (λ (other : ℕ). is_declared_below classes methods other method) named)) named
          (chosen_inherited class signature))

      -- ---- one of them is selected

      found_among_all : (P : ℕ → Type 0) (numbers : List ℕ) (number : ℕ) → AllByRecursion P numbers → found_among numbers ≡ chosen.Method number → P number
      found_among_all P [] number all is = absurd (cc is)
      found_among_all P (first ∷ []) number all is = let same : first ≡ number = cc in subst P same all.0
      found_among_all P (first ∷ second ∷ numbers) number all is = absurd (cc is)

      first_or_all : (P : ℕ → Type 0) (one : Option ℕ) (others : List ℕ) (number : ℕ) → IfSome one P → AllByRecursion P others → first_or methods one others ≡ chosen.Method number → P number
      first_or_all P None others number own all is = found_among_all P others number all is
      first_or_all P (Some first) others number own all is = subst P (found_is methods first number is) own

      first_all : (P : ℕ → Type 0) (numbers : List ℕ) → AllByRecursion P numbers → IfSome (first_of numbers) P
      first_all P [] all = tt
      first_all P (first ∷ numbers) all = all.0

      overriding_all : (P : ℕ → Type 0) (resolved : ℕ) (numbers : List ℕ) → AllByRecursion P numbers → IfSome (overriding classes methods resolved numbers) P
      overriding_all P resolved [] all = tt
      overriding_all P resolved (first ∷ numbers) all = go (overrides classes methods first numbers resolved) (overriding_all P resolved numbers all.1) where
        go : (test : Bool) → IfSome (overriding classes methods resolved numbers) P → IfSome (if test then Some first else overriding classes methods resolved numbers) P
        go true later = all.0
        go false later = later

      implementing_all : (P : ℕ → Type 0) (numbers : List ℕ) → AllByRecursion P numbers → IfSome (implementing methods numbers) P
      implementing_all P [] all = tt
      implementing_all P (first ∷ numbers) all = go (method_is methods (λ (own : Method). not (is_private own.visibility)) first) (implementing_all P numbers all.1) where
        go : (test : Bool) → IfSome (implementing methods numbers) P → IfSome (if test then Some first else implementing methods numbers) P
        go true later = all.0
        go false later = later

      if_either : (P : ℕ → Type 0) (test : Bool) (one other : Option ℕ) → IfSome one P → IfSome other P → IfSome (if test then one else other) P
      if_either P true one other is also = is
      if_either P false one other is also = also

      abbrev selected_of : ℕ → ℕ → Option Method → Selected
      selected_of class resolved None = chosen.Abstract
      selected_of class resolved (Some method) =
          first_or methods
          (if is_interface classes method.declared.class then implementing methods (declared_upwards classes methods class method.declared.signature)
          else overriding classes methods resolved (declared_upwards classes methods class method.declared.signature))
          (most_specific classes methods class method.declared.signature)

      pub selected_chosen : (class resolved number : ℕ) (method : Method) → class < length classes → slice_get methods resolved ≡ Some method
          → selected classes methods class resolved ≡ chosen.Method number → IsChosen class method.declared.signature number
      selected_chosen class resolved number method within there is =
          let signature : ℕ = method.declared.signature in
          let them : List ℕ = declared_upwards classes methods class signature in
          let all : AllByRecursion (IsChosen class signature) them = chosen_upwards class signature within in
          first_or_all (IsChosen class signature)
          (if is_interface classes method.declared.class then implementing methods them else overriding classes methods resolved them)
          (most_specific classes methods class signature) number
          (if_either (IsChosen class signature) (is_interface classes method.declared.class) (implementing methods them) (overriding classes methods resolved them)
          (implementing_all (IsChosen class signature) them all) (overriding_all (IsChosen class signature) resolved them all))
          (chosen_above class signature) (sym (ap (selected_of class resolved) there) ∙ is)

      -- that of invokespecial, from a superclass
      pub from_chosen : (class signature number : ℕ) → class < length classes
          → first_or methods (first_of (declared_upwards classes methods class signature)) (most_specific classes methods class signature) ≡ chosen.Method number
          → IsChosen class signature number
      from_chosen class signature number within is =
          first_or_all (IsChosen class signature) (first_of (declared_upwards classes methods class signature)) (most_specific classes methods class signature) number
          (first_all (IsChosen class signature) (declared_upwards classes methods class signature) (chosen_upwards class signature within)) (chosen_above class signature) is

      pub among_chosen : (class signature number : ℕ) → found_among (most_specific classes methods class signature) ≡ chosen.Method number → IsChosen class signature number
      among_chosen class signature number is =
          found_among_all (IsChosen class signature) (most_specific classes methods class signature) number (chosen_above class signature) is

      -- ---- a method that is resolved is of the signature

      pub record Signs (signature number : ℕ) : Type 0 where
        pub method : Method
        pub there : slice_get methods number ≡ Some method
        pub signature_is : method.declared.signature ≡ signature

      chosen_signs : (class signature number : ℕ) → IsChosen class signature number → Signs signature number
      chosen_signs class signature number is = record { method = is.method; there = is.there; signature_is = is.signature_is }

      if_declared : (declaring signature : ℕ) → IfSome (method_of methods declaring signature) (Signs signature)
      if_declared declaring signature = go (method_of methods declaring signature) refl where
        go : (found : Option ℕ) → method_of methods declaring signature ≡ found → IfSome found (Signs signature)
        go None is = tt
        go (Some number) is =
            let own : IsDeclaredBy declaring signature number = declared_by declaring signature number is in
            record { method = own.method; there = own.there; signature_is = own.signature_is }

      first_signs : (signature : ℕ) (numbers : List ℕ) → IfSome (first_some (map (λ (number : ℕ). method_of methods number signature) numbers)) (Signs signature)
      first_signs signature [] = tt
      first_signs signature (first ∷ numbers) = go (method_of methods first signature) (if_declared first signature) (first_signs signature numbers) where
        go : (found : Option ℕ) → IfSome found (Signs signature) → IfSome (first_some (map (λ (number : ℕ). method_of methods number signature) numbers)) (Signs signature)
            → IfSome (first_some (found ∷ map (λ (number : ℕ). method_of methods number signature) numbers)) (Signs signature)
        go None own later = later
        go (Some number) own later = own

      only_all : (P : ℕ → Type 0) (numbers : List ℕ) → AllByRecursion P numbers → IfSome (only_one numbers) P
      only_all P [] all = tt
      only_all P (first ∷ []) all = all.0
      only_all P (first ∷ second ∷ numbers) all = tt

      among_signs : (class signature : ℕ) → IfSome (among_superinterfaces classes methods class signature) (Signs signature)
      among_signs class signature =
          either (Signs signature) (only_one (most_specific classes methods class signature)) (first_of (superinterface_methods classes methods class signature))
          (only_all (Signs signature) (most_specific classes methods class signature)
          (all_weaker (IsChosen class signature) (Signs signature) (chosen_signs class signature) (most_specific classes methods class signature) (chosen_above class signature)))
          (first_all (Signs signature) (superinterface_methods classes methods class signature)
          (all_weaker (IsChosen class signature) (Signs signature) (chosen_signs class signature) (superinterface_methods classes methods class signature) (chosen_inherited class signature)))

      object_signs : (object signature : ℕ) → IfSome (method_of_object methods object signature) (Signs signature)
      object_signs object signature = go (method_of methods object signature) (if_declared object signature) where
        kept : (test : Bool) (number : ℕ) → Signs signature number → IfSome (if test then Some number else None) (Signs signature)
        kept true number is = is
        kept false number is = tt

        go : (found : Option ℕ) → IfSome found (Signs signature)
            → IfSome (option_and_then (λ (number : ℕ). if method_is methods (λ (method : Method). is_public method.visibility && not method.is_static) number then Some number else None) found) (Signs signature)
        go None is = tt
        go (Some number) is = kept (method_is methods (λ (method : Method). is_public method.visibility && not method.is_static) number) number is

      pub resolved_signs : (object class signature : ℕ) → IfSome (resolved_method classes methods object class signature) (Signs signature)
      resolved_signs object class signature =
          if_either (Signs signature) (is_interface classes class) (method_of_interface classes methods object class signature) (method_of_class classes methods class signature)
          (either (Signs signature) (method_of methods class signature) (option_or (method_of_object methods object signature) (among_superinterfaces classes methods class signature))
          (if_declared class signature)
          (either (Signs signature) (method_of_object methods object signature) (among_superinterfaces classes methods class signature) (object_signs object signature) (among_signs class signature)))
          (either (Signs signature) (first_some (map (λ (number : ℕ). method_of methods number signature) (upwards classes class))) (among_superinterfaces classes methods class signature)
          (first_signs signature (upwards classes class)) (among_signs class signature))
