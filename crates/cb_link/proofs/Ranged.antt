-- The numbers that classes name are those of classes.
use Rattle.std.proofs.Common.{◌≡◌, ◌<◌, ◌≤◌, refl, sym, subst, arith, inl, inr, ℕ, zero, suc, Bool, true, false, List, [], ◌∷◌, ◌++◌, map, length, cond, nat_lt, Option, Some, None}
use Rattle.std.specs.Prelude.{slice_get, option_and_then, option_map, ◌⊎◌}
use Rattle.std.specs.List.{AllByRecursion, Contains, flat_map, position_or_len}
use Rattle.std.proofs.lemmas.Bool.Decides.{nat_tests}
use Rattle.std.proofs.lemmas.List.{length-map}
use Rattle.std.proofs.lemmas.List.Concat.{flat_map-cons}
use Rattle.std.proofs.lemmas.Bool.{cases_lt}
use Rattle.std.proofs.lemmas.Option.{slice_get-map, slice_get_past}
use Rattle.cb_classfile.specs.declared.class.ClassFile.{ClassFile}
use Rattle.cb_classfile.specs.Pool.{class_at}
use Rattle.cb_hierarchy.specs.declared.class.Class.{Class as Ranked}
use Rattle.cb_hierarchy.specs.declared.member.Method.{Method as RankedMethod}
use Rattle.cb_hierarchy.specs.Above.{IsAbove, IsAcyclic, Direct, Through}
use Rattle.cb_hierarchy.specs.Bad.{AreGood, IsItsOwn}
use Rattle.cb_hierarchy.specs.Classes.{AreClasses, listed, parents}
use Rattle.cb_kinds.specs.Texts.{number_of, same_text}
use Rattle.cb_link.specs.Numbers.{class_number_at, hierarchy, name_of, ranked}

pub contains_all : {X : Type 0} (P : X → Type 0) (xs : List X) (x : X) → AllByRecursion P xs → Contains xs x → P x
contains_all P [] x all (i, low, is) = absurd (past i low) where
  past : (i : ℕ) → i < 0 → ⊥
  past i low = omega (arith, low)
contains_all P (y ∷ ys) x (this, rest) (zero, low, is) = subst P is this
contains_all P (y ∷ ys) x (this, rest) (suc i, low, is) = contains_all P ys x rest (i, omega (arith, low), is)

pub all_both : {X : Type 0} (P : X → Type 0) (xs ys : List X) → AllByRecursion P xs → AllByRecursion P ys → AllByRecursion P (xs ++ ys)
all_both P [] ys one other = other
all_both P (x ∷ xs) ys (this, rest) other = (this, all_both P xs ys rest other)

pub all_lists : {X Y : Type 0} (P : Y → Type 0) (f : X → List Y) (xs : List X) → ((x : X) → AllByRecursion P (f x)) → AllByRecursion P (flat_map f xs)
all_lists P f [] each = tt
all_lists P f (x ∷ xs) each = subst (AllByRecursion P) (sym (flat_map-cons f x xs)) (all_both P (f x) (flat_map f xs) (each x) (all_lists P f xs each))

-- a name's number is that of a name
pub number_low : (names : List (List ℕ)) (name : List ℕ) (number : ℕ) → number_of names name ≡ Some number → number < length names
number_low names name number found = go (nat_lt (position_or_len (same_text name) names) (length names)) refl found where
  go : (test : Bool) → nat_lt (position_or_len (same_text name) names) (length names) ≡ test → cond test (Some (position_or_len (same_text name) names)) None ≡ Some number → number < length names
  go true is found = let same : position_or_len (same_text name) names ≡ number = cc in grind (arith, nat_tests)
  go false is found = cc

at_low : (names : List (List ℕ)) (name : Option (List ℕ)) → AllByRecursion (λ number. number < length names) (listed (option_and_then (number_of names) name))
at_low names None = tt
at_low names (Some name) = go (number_of names name) (λ number found. number_low names name number found) where
  go : (found : Option ℕ) → ((number : ℕ) → found ≡ Some number → number < length names) → AllByRecursion (λ number. number < length names) (listed found)
  go None low = tt
  go (Some number) low = (low number refl, tt)

abbrev pub Low : List ClassFile → ℕ → Type 0
Low classes number = number < length (map name_of classes)

-- the parents of a class that was ranked
pub parents_low : (classes : List ClassFile) (number : ℕ) → AllByRecursion (Low classes) (parents (hierarchy classes) number)
parents_low classes number = go (slice_get classes number) (slice_get-map (ranked classes) classes number) where
  go : (class : Option ClassFile) → slice_get (hierarchy classes) number ≡ option_map (ranked classes) class → AllByRecursion (Low classes) (parents (hierarchy classes) number)
  go None is = rw is tt
  go (Some class) is =
      rw is (all_both (Low classes) (listed (class_number_at classes class.pool class.super_class)) (flat_map (λ index. listed (class_number_at classes class.pool index)) class.interfaces)
      (at_low (map name_of classes) (class_at class.pool class.super_class))
      (all_lists (Low classes) (λ index. listed (class_number_at classes class.pool index)) class.interfaces (λ index. at_low (map name_of classes) (class_at class.pool index))))

pub are_classes : (classes : List ClassFile) → length classes ≤ 1024 → AreClasses (hierarchy classes)
are_classes classes few =
    let many : length (hierarchy classes) ≡ length classes = length-map classes (ranked classes) in
    let named : length (map name_of classes) ≡ length classes = length-map classes name_of in
    record { few = omega (arith, few, many); below = λ number parent there. let low : parent < length (map name_of classes) = contains_all (Low classes) (parents (hierarchy classes) number) parent (parents_low classes number) there in omega (arith, low, many, named) }

-- only a class of the list is below another
no_parent : (parent : ℕ) → Contains [] parent → ⊥
no_parent parent (i, low, is) = omega (arith, low)

named_in : (classes : List Ranked) (number parent : ℕ) → Contains (parents classes number) parent → number < length classes
named_in classes number parent there = go (cases_lt number (length classes)) where
  go : (number < length classes) ⊎ (length classes ≤ number) → number < length classes
  go (inl low) = low
  go (inr past) =
      let none : slice_get classes number ≡ None = slice_get_past classes number past in
      let nothing : parents classes number ≡ [] = rw none refl in
      absurd (no_parent parent (subst (λ list. Contains list parent) nothing there))

below_in : (classes : List Ranked) (class other : ℕ) → IsAbove (parents classes) class other → class < length classes
below_in classes class other (Direct one parent there) = named_in classes one parent there
below_in classes class other (Through one parent last there above) = named_in classes one parent there

pub acyclic : (classes : List Ranked) (methods : List RankedMethod) → AreGood classes methods → IsAcyclic classes
acyclic classes methods good = λ class above. good class (below_in classes class class above) (IsItsOwn above)
