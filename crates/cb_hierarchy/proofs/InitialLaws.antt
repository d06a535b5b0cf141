-- What is initialised before a class.
use Rattle.std.proofs.Common.{◌≡◌, ◌∙◌, ap, refl, sym, ℕ, Bool, true, false, cond, not, ◌+◌, ◌<◌, ◌&&◌, ◌||◌, ◌==◌, List, [], ◌∷◌, ◌++◌, filter, length, map, nat_eq, option_map, take, Some}
use Rattle.std.specs.Prelude.{slice_get}
use Rattle.std.specs.List.{Contains, flat_map}
use Rattle.std.proofs.lemmas.List.{take_more}
use Rattle.std.proofs.lemmas.List.Folds.{list_any-append}
use Rattle.std.proofs.lemmas.Option.{get_or_from_slice_get, slice_get-map, slice_get_within}
use Rattle.cb_hierarchy.specs.declared.class.Class.{Class}
use Rattle.cb_hierarchy.specs.declared.member.Method.{Method}
use Rattle.cb_hierarchy.specs.InnerBeginnings.{before_by}
use Rattle.cb_hierarchy.specs.Classes.{AreClasses, is_interface, listed, superclass, superinterfaces}
use Rattle.cb_hierarchy.specs.Initial.{declares_body, enumerated, enumerated_by, initialised_before}
use Rattle.cb_hierarchy.specs.Inner.{IsLocal, list_at}
use Rattle.cb_hierarchy.specs.Orders.{distinct}
use Rattle.cb_hierarchy.proofs.Locals.{of_superinterfaces, flat_map_agrees}
use Rattle.cb_hierarchy.proofs.RowLaws.{there}
use Rattle.cb_hierarchy.proofs.Named.{superclass_is, superinterface_among, superinterfaces_are}

-- one method more
body_more : (methods : List Method) (number : ℕ) (method : Method) (class : ℕ) → slice_get methods number ≡ Some method
    → declares_body (take (number + 1) methods) class ≡ (declares_body (take number methods) class || ((method.declared.class == class) && (not method.is_abstract && not method.is_static)))
body_more methods number method class is =
    ap (λ methods. declares_body methods class) (take_more methods number method (slice_get_within methods number method is) ∙ ap (λ method. take number methods ++ method ∷ []) (get_or_from_slice_get methods number method method is))
    ∙ list_any-append declares (take number methods) (method ∷ [])
    ∙ ap (λ last. declares_body (take number methods) class || last) (go (declares method))
  where
    declares : Method → Bool
    declares method = (method.declared.class == class) && (not method.is_abstract && not method.is_static)

    go : (test : Bool) → (test || false) ≡ test
    go true = refl
    go false = refl

pub with_body : (methods : List Method) (number : ℕ) (method : Method) (class : ℕ) (before now body : Bool) → slice_get methods number ≡ Some method
    → body ≡ (not method.is_abstract && not method.is_static) → body ≡ true → before ≡ declares_body (take number methods) class → now ≡ cond (nat_eq method.declared.class class) true before
    → now ≡ declares_body (take (number + 1) methods) class
with_body methods number method class before now body is so has at then =
    then ∙ ap (cond (nat_eq method.declared.class class) true) at
    ∙ go (nat_eq method.declared.class class) (declares_body (take number methods) class)
    ∙ ap (λ body. declares_body (take number methods) class || ((method.declared.class == class) && body)) (sym has ∙ so)
    ∙ sym (body_more methods number method class is)
  where
    go : (test before : Bool) → cond test true before ≡ (before || (test && true))
    go true true = refl
    go true false = refl
    go false true = refl
    go false false = refl

pub without_body : (methods : List Method) (number : ℕ) (method : Method) (class : ℕ) (before body : Bool) → slice_get methods number ≡ Some method
    → body ≡ (not method.is_abstract && not method.is_static) → body ≡ false → before ≡ declares_body (take number methods) class
    → before ≡ declares_body (take (number + 1) methods) class
without_body methods number method class before body is so none at =
    at ∙ go (nat_eq method.declared.class class) (declares_body (take number methods) class)
    ∙ ap (λ body. declares_body (take number methods) class || ((method.declared.class == class) && body)) (sym none ∙ so)
    ∙ sym (body_more methods number method class is)
  where
    go : (test before : Bool) → before ≡ (before || (test && false))
    go true true = refl
    go true false = refl
    go false true = refl
    go false false = refl

pub enumerated_local : (classes : List Class) → IsLocal classes (enumerated_by classes)
enumerated_local classes class one other agree = ap (λ (list : List ℕ). distinct (list ++ class ∷ [])) (of_superinterfaces classes class one other agree)

filter_agrees : (one other : ℕ → Bool) (numbers : List ℕ) → ((number : ℕ) → one number ≡ other number) → filter one numbers ≡ filter other numbers
filter_agrees one other [] agree = refl
filter_agrees one other (number ∷ numbers) agree =
    ap (λ rest. cond (one number) (number ∷ rest) rest) (filter_agrees one other numbers agree)
    ∙ ap (λ test. cond test (number ∷ filter other numbers) (filter other numbers)) (agree number)

-- what is made for a class is what is initialised before it
pub before_is : (classes : List Class) (methods : List Method) (declares : ℕ → Bool) (lists : List (List ℕ)) (class : ℕ) (own : Class) → slice_get classes class ≡ Some own
    → ((number : ℕ) → declares number ≡ declares_body methods number) → ((number : ℕ) → Contains own.interfaces number → list_at lists number ≡ enumerated classes number)
    → before_by declares (list_at lists) own ≡ initialised_before classes methods class
before_is classes methods declares lists class own is agree made =
    ap (λ numbers. cond own.is_interface [] (listed own.superclass ++ filter declares (distinct numbers))) (flat_map_agrees (list_at lists) (enumerated classes) own.interfaces made)
    ∙ ap (λ numbers. cond own.is_interface [] (listed own.superclass ++ numbers)) (filter_agrees declares (declares_body methods) (distinct (flat_map (enumerated classes) own.interfaces)) agree)
    ∙ ap (λ numbers. cond own.is_interface [] (listed own.superclass ++ filter (declares_body methods) (distinct (flat_map (enumerated classes) numbers)))) (sym (superinterfaces_are classes class own is))
    ∙ ap (λ numbers. cond own.is_interface [] (numbers ++ filter (declares_body methods) (distinct (flat_map (enumerated classes) (superinterfaces classes class))))) (sym (superclass_is classes class own is))
    ∙ ap (λ test. cond test [] (superclass classes class ++ filter (declares_body methods) (distinct (flat_map (enumerated classes) (superinterfaces classes class))))) (sym interface)
  where
    interface : is_interface classes class ≡ own.is_interface
    interface = rw is refl

-- and of all classes
pub all_is : (classes : List Class) (methods : List Method) (declares : ℕ → Bool) (lists all : List (List ℕ)) → AreClasses classes → all ≡ map (before_by declares (list_at lists)) classes
    → ((number : ℕ) → declares number ≡ declares_body methods number) → ((class : ℕ) → class < length classes → slice_get lists class ≡ Some (enumerated classes class))
    → (class : ℕ) → class < length classes → slice_get all class ≡ Some (initialised_before classes methods class)
all_is classes methods declares lists all known is agree made class within =
    let own = there classes class within in
    ap (λ (all : List (List ℕ)). slice_get all class) is
    ∙ slice_get-map (before_by declares (list_at lists)) classes class
    ∙ ap (option_map (before_by declares (list_at lists))) own.1
    ∙ ap Some (before_is classes methods declares lists class own.0 own.1 agree
    (λ number among. get_or_from_slice_get lists number (enumerated classes number) [] (made number (known.below class number (superinterface_among classes class own.0 own.1 number among)))))
