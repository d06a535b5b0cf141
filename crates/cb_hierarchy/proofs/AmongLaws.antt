-- What the superinterfaces of a class have, method by method.
use Rattle.std.proofs.Common.{◌≡◌, ◌≢◌, ◌∙◌, inl, inr, ap, ap₂, arith, eq-eqb, refl, subst, sym, true≢false, ℕ, Bool, true, false, cond, not, ◌+◌, ◌<◌, ◌&&◌, ◌||◌, ◌==◌, List, [], ◌∷◌, ◌++◌, drop, filter, length, map, set, take, get_or, Option, Some, None}
use Rattle.std.specs.Prelude.{is_some, slice_get, unwrap_or}
use Rattle.std.specs.List.{flat_map, list_any, position_from}
use Rattle.std.proofs.lemmas.Bool.{cases_eq, eqb-true}
use Rattle.std.proofs.lemmas.Bool.Decides.{nat_tests}
use Rattle.std.proofs.lemmas.Iterator.Adapters.{position_from-zero}
use Rattle.std.proofs.lemmas.List.{take_more}
use Rattle.std.proofs.lemmas.List.Folds.{list_any-append}
use Rattle.std.proofs.lemmas.Option.{get_or_from_slice_get, slice_get_within}
use Rattle.cb_hierarchy.specs.declared.class.Class.{Class}
use Rattle.cb_hierarchy.specs.declared.entry.Entry.{Entry}
use Rattle.cb_hierarchy.specs.declared.entry.Entry.TheVariants.{Absent}
use Rattle.cb_hierarchy.specs.declared.member.Declared.{Declared}
use Rattle.cb_hierarchy.specs.declared.member.Method.{Method}
use Rattle.cb_hierarchy.specs.Classes.{is_interface, listed}
use Rattle.cb_hierarchy.specs.Members.{method_of}
use Rattle.cb_hierarchy.specs.Orders.{is_subclass, lookup_order}
use Rattle.cb_hierarchy.specs.InnerReaching.{AreFirst, above_class, among_if, entry_among, is_above, is_declared_above, signature_in, signature_of}
use Rattle.cb_hierarchy.specs.Resolution.{is_inherited, method_is, most_specific, most_specific_of, superinterface_methods}
use Rattle.cb_hierarchy.proofs.OrderLaws.{first_not, second_not}
use Rattle.cb_hierarchy.proofs.RowLaws.{slice_get_other, slice_get_same, there}

pub apart_test : (a b : ℕ) → a ≢ b → (a == b) ≡ false
apart_test a b apart = grind (arith, nat_tests)

either_false : (a : Bool) → (a || false) ≡ a
either_false true = refl
either_false false = refl

either_true : (a : Bool) → (a || true) ≡ true
either_true true = refl
either_true false = refl

and_false : (a : Bool) → (a && false) ≡ false
and_false true = refl
and_false false = refl

module _ (classes : List Class) (methods : List Method) (class : ℕ) where
  abbrev right : ℕ → Entry
  right signature = entry_among (most_specific classes methods class signature)

  more : (number : ℕ) (method : Method) → slice_get methods number ≡ Some method → (signature : ℕ) → is_declared_above classes class (take (number + 1) methods) signature
      ≡ (is_declared_above classes class (take number methods) signature || ((method.declared.signature == signature) && above_class classes class method))
  more number method is signature =
      ap (λ methods. is_declared_above classes class methods signature)
      (take_more methods number method (slice_get_within methods number method is) ∙ ap (λ method. take number methods ++ method ∷ []) (get_or_from_slice_get methods number method method is))
      ∙ list_any-append declares (take number methods) (method ∷ [])
      ∙ ap (λ last. is_declared_above classes class (take number methods) signature || last) (either_false (declares method))
    where
      declares : Method → Bool
      declares method = (method.declared.signature == signature) && above_class classes class method

  above_is : (number : ℕ) (method : Method) → slice_get methods number ≡ Some method → is_above classes methods class number ≡ above_class classes class method
  above_is number method is = rw is refl

  -- a signature of which this method says nothing
  same_if : (number place : ℕ) (method : Method) → slice_get methods number ≡ Some method → ((method.declared.signature == place) && above_class classes class method) ≡ false
      → among_if classes methods class (take number methods) place ≡ among_if classes methods class (take (number + 1) methods) place
  same_if number place method is none =
      ap (λ test. cond test (Some (right place)) None)
      (sym (more number method is place ∙ ap (λ last. is_declared_above classes class (take number methods) place || last) none ∙ either_false (is_declared_above classes class (take number methods) place)))

  pub not_above : (number : ℕ) (among : List (Option Entry)) → number < length methods → is_above classes methods class number ≡ false
      → AreFirst (length methods) (among_if classes methods class (take number methods)) among → AreFirst (length methods) (among_if classes methods class (take (number + 1) methods)) among
  not_above number among within none first place below =
      let own = there methods number within in
      first place below
      ∙ ap Some (same_if number place own.0 own.1 (ap (λ test. (own.0.declared.signature == place) && test) (sym (above_is number own.0 own.1) ∙ none) ∙ and_false (own.0.declared.signature == place)))

  -- a signature that is known
  pub known : (number signature : ℕ) (among : List (Option Entry)) (cell : Option Entry) → number < length methods → signature ≡ signature_of methods number → signature < length methods
      → cell ≡ get_or among signature cell → is_some cell ≡ true
      → AreFirst (length methods) (among_if classes methods class (take number methods)) among → AreFirst (length methods) (among_if classes methods class (take (number + 1) methods)) among
  known number signature among cell within its small read some first place below =
      first place below ∙ ap Some (elim (cases_eq signature place) as (λ _. among_if classes methods class (take number methods) place ≡ among_if classes methods class (take (number + 1) methods) place) [
        | inl same ↦
            ap (λ test. cond test (Some (right place)) None)
            (here place same ∙ sym (more number own.0 own.1 place ∙ ap (λ test. test || ((own.0.declared.signature == place) && above_class classes class own.0)) (here place same)))
        | inr apart ↦
            same_if number place own.0 own.1
            (ap (λ test. test && above_class classes class own.0) (apart_test own.0.declared.signature place (λ same. apart (its ∙ ap signature_in own.1 ∙ same))))
      ])
    where
      own : (method : Method) × (slice_get methods number ≡ Some method)
      own = there methods number within

      told : (test : Bool) (entry : Entry) → is_some (cond test (Some entry) None) ≡ true → test ≡ true
      told true entry is = refl
      told false entry is = is

      here : (place : ℕ) → signature ≡ place → is_declared_above classes class (take number methods) place ≡ true
      here place same =
          subst (λ place. is_declared_above classes class (take number methods) place ≡ true) same
          (told (is_declared_above classes class (take number methods) signature) (right signature)
          (ap is_some (sym (get_or_from_slice_get among signature (among_if classes methods class (take number methods) signature) cell (first signature small))) ∙ ap is_some (sym read) ∙ some))

  -- one that is found
  pub put : (number signature : ℕ) (among : List (Option Entry)) (entry : Entry) → number < length methods → signature ≡ signature_of methods number → signature < length methods
      → length among ≡ length methods → is_above classes methods class number ≡ true → entry ≡ right signature
      → AreFirst (length methods) (among_if classes methods class (take number methods)) among
      → AreFirst (length methods) (among_if classes methods class (take (number + 1) methods)) (set among signature (Some entry))
  put number signature among entry within its small many above is first place below =
      elim (cases_eq place signature) as (λ _. slice_get (set among signature (Some entry)) place ≡ Some (among_if classes methods class (take (number + 1) methods) place)) [
        | inl same ↦
            ap (slice_get (set among signature (Some entry))) same
            ∙ slice_get_same among signature (Some entry) (omega (arith, small, many))
            ∙ ap (λ (entry : Entry). Some (Some entry)) is
            ∙ ap Some (ap (λ test. cond test (Some (right signature)) None) (sym (more number own.0 own.1 signature
            ∙ ap₂ (λ one other. is_declared_above classes class (take number methods) signature || (one && other)) (eq-eqb own.0.declared.signature signature (sym (its ∙ ap signature_in own.1))) (sym (above_is number own.0 own.1) ∙ above)
            ∙ either_true (is_declared_above classes class (take number methods) signature))))
            ∙ ap (λ place. Some (among_if classes methods class (take (number + 1) methods) place)) (sym same)
        | inr apart ↦
            slice_get_other among signature place (Some entry) apart
            ∙ first place below
            ∙ ap Some (same_if number place own.0 own.1
            (ap (λ test. test && above_class classes class own.0) (apart_test own.0.declared.signature place (λ same. apart (sym (its ∙ ap signature_in own.1 ∙ same))))))
      ]
    where
      own : (method : Method) × (slice_get methods number ≡ Some method)
      own = there methods number within

-- no method of this signature in a class of which each method would be found
unlisted : (classes : List Class) (class number signature : ℕ) (methods : List Method) (start : ℕ)
    → ((method : Method) → (method.declared.class == number) ≡ true → above_class classes class method ≡ true)
    → is_declared_above classes class methods signature ≡ false
    → position_from (λ (member : Declared). (member.class == number) && (member.signature == signature)) start (map (λ method. method.declared) methods) ≡ None
unlisted classes class number signature [] start passes none = refl
unlisted classes class number signature (method ∷ methods) start passes none =
    ap (λ test. cond test (Some start) (position_from (λ (member : Declared). (member.class == number) && (member.signature == signature)) (start + 1) (map (λ method. method.declared) methods)))
    (go (method.declared.class == number) (method.declared.signature == signature) (above_class classes class method) (passes method) (first_not _ _ none))
    ∙ unlisted classes class number signature methods (start + 1) passes (second_not _ _ none)
  where
    go : (here same above : Bool) → (here ≡ true → above ≡ true) → (same && above) ≡ false → (here && same) ≡ false
    go false same above passes none = refl
    go true false above passes none = refl
    go true true above passes none = absurd (true≢false (sym (passes refl) ∙ none))

-- what isn't declared above a class isn't among its superinterfaces
pub absent_above : (classes : List Class) (methods : List Method) (class signature : ℕ) → is_declared_above classes class methods signature ≡ false
    → superinterface_methods classes methods class signature ≡ []
absent_above classes methods class signature none =
    ap (filter (method_is methods is_inherited)) (go (drop 1 (lookup_order classes class)) (λ number is. among_rest (lookup_order classes class) number is))
  where
    among_rest : (numbers : List ℕ) (number : ℕ) → list_any (λ other. other == number) (drop 1 numbers) ≡ true → list_any (λ other. other == number) numbers ≡ true
    among_rest [] number is = is
    among_rest (first ∷ numbers) number is = ap (λ test. (first == number) || test) is ∙ either_true (first == number)

    here : (number : ℕ) → is_interface classes number ≡ true → is_subclass classes class number ≡ true → method_of methods number signature ≡ None
    here number interface below =
        position_from-zero (λ (member : Declared). (member.class == number) && (member.signature == signature)) (map (λ method. method.declared) methods)
        ∙ unlisted classes class number signature methods 0
        (λ method same. let of : method.declared.class ≡ number = eqb-true method.declared.class number same in
        ap₂ (λ one other. one && other) (ap (is_interface classes) of ∙ interface) (ap (is_subclass classes class) of ∙ below))
        none

    go : (numbers : List ℕ) → ((number : ℕ) → list_any (λ other. other == number) numbers ≡ true → is_subclass classes class number ≡ true)
        → flat_map (λ number. listed (method_of methods number signature)) (filter (is_interface classes) numbers) ≡ []
    go [] among = refl
    go (number ∷ numbers) among = by (is_interface classes number) refl (go numbers (λ other is. among other (ap (λ test. (number == other) || test) is ∙ either_true (number == other))))
      where
        by : (test : Bool) → is_interface classes number ≡ test → flat_map (λ number. listed (method_of methods number signature)) (filter (is_interface classes) numbers) ≡ []
            → flat_map (λ number. listed (method_of methods number signature)) (cond test (number ∷ filter (is_interface classes) numbers) (filter (is_interface classes) numbers)) ≡ []
        by false is rest = rest
        by true is rest =
            ap₂ (λ found (others : List ℕ). listed found ++ others)
            (here number is (among number (ap (λ test. test || list_any (λ other. other == number) numbers) (eq-eqb number number refl)))) rest

pub unwrapped : (classes : List Class) (methods : List Method) (class signature : ℕ)
    → unwrap_or (among_if classes methods class methods signature) Absent ≡ entry_among (most_specific classes methods class signature)
unwrapped classes methods class signature = go (is_declared_above classes class methods signature) refl
  where
    go : (test : Bool) → is_declared_above classes class methods signature ≡ test
        → unwrap_or (cond test (Some (entry_among (most_specific classes methods class signature))) None) Absent ≡ entry_among (most_specific classes methods class signature)
    go true is = refl
    go false is = sym (ap (λ candidates. entry_among (filter (method_is methods (λ method. not method.is_abstract)) (most_specific_of classes methods candidates))) (absent_above classes methods class signature is))
