-- The methods that a class declares, method by method.
use Rattle.std.proofs.Common.{◌≡◌, ◌∙◌, inl, inr, ap, ap₂, arith, eq-eqb, refl, subst, sym, true≢false, ℕ, Bool, true, false, cond, ◌+◌, ◌<◌, ◌&&◌, ◌==◌, List, length, map, set, take, get_or, Option, Some, None}
use Rattle.std.specs.Option.{option_or}
use Rattle.std.specs.Prelude.{is_some, slice_get}
use Rattle.std.proofs.lemmas.Bool.{cases_eq}
use Rattle.std.proofs.lemmas.Option.{get_or_from_slice_get, slice_get_within}
use Rattle.cb_hierarchy.specs.declared.member.Method.{Method}
use Rattle.cb_hierarchy.specs.Members.{method_of, place_of}
use Rattle.cb_hierarchy.specs.InnerReaching.{AreFirst, signature_in, signature_of}
use Rattle.cb_hierarchy.specs.Resolution.{method_is}
use Rattle.cb_hierarchy.proofs.AmongLaws.{apart_test}
use Rattle.cb_hierarchy.proofs.IndexLaws.{one_more, or_none, or_some, place_of-push, taken}
use Rattle.cb_hierarchy.proofs.RowLaws.{slice_get_other, slice_get_same, there}

and_false : (a : Bool) → (a && false) ≡ false
and_false true = refl
and_false false = refl

module _ (methods : List Method) (class : ℕ) where
  more : (number : ℕ) (method : Method) → slice_get methods number ≡ Some method → (signature : ℕ) → method_of (take (number + 1) methods) class signature
      ≡ option_or (method_of (take number methods) class signature) (cond ((method.declared.class == class) && (method.declared.signature == signature)) (Some number) None)
  more number method is signature =
      ap (λ members. place_of members class signature)
      (one_more (λ (method : Method). method.declared) methods number method within (sym (get_or_from_slice_get methods number method method is)))
      ∙ place_of-push (map (λ method. method.declared) (take number methods)) method.declared class signature number (taken (λ (method : Method). method.declared) methods number within)
    where
      within : number < length methods
      within = slice_get_within methods number method is

  own_is : (number : ℕ) (method : Method) → slice_get methods number ≡ Some method → method_is methods (λ method. method.declared.class == class) number ≡ (method.declared.class == class)
  own_is number method is = rw is refl

  -- a signature of which this method says nothing
  same_if : (number place : ℕ) (method : Method) → slice_get methods number ≡ Some method → ((method.declared.class == class) && (method.declared.signature == place)) ≡ false
      → method_of (take number methods) class place ≡ method_of (take (number + 1) methods) class place
  same_if number place method is none =
      sym (more number method is place ∙ ap (λ test. option_or (method_of (take number methods) class place) (cond test (Some number) None)) none ∙ or_none (method_of (take number methods) class place))

  pub not_own : (number : ℕ) (own : List (Option ℕ)) → number < length methods → method_is methods (λ method. method.declared.class == class) number ≡ false
      → AreFirst (length methods) (method_of (take number methods) class) own → AreFirst (length methods) (method_of (take (number + 1) methods) class) own
  not_own number own within none first place below =
      let method = there methods number within in
      first place below
      ∙ ap Some (same_if number place method.0 method.1 (ap (λ test. test && (method.0.declared.signature == place)) (sym (own_is number method.0 method.1) ∙ none)))

  pub known_own : (number signature : ℕ) (own : List (Option ℕ)) (cell : Option ℕ) → number < length methods → signature ≡ signature_of methods number → signature < length methods
      → cell ≡ get_or own signature cell → is_some cell ≡ true
      → AreFirst (length methods) (method_of (take number methods) class) own → AreFirst (length methods) (method_of (take (number + 1) methods) class) own
  known_own number signature own cell within its small read some first place below =
      first place below ∙ ap Some (elim (cases_eq signature place) as (λ _. method_of (take number methods) class place ≡ method_of (take (number + 1) methods) class place) [
        | inl same ↦ sym (more number method.0 method.1 place ∙ or_some (method_of (take number methods) class place) _ (here place same))
        | inr apart ↦
            same_if number place method.0 method.1
            (ap (λ test. (method.0.declared.class == class) && test) (apart_test method.0.declared.signature place (λ same. apart (its ∙ ap signature_in method.1 ∙ same))) ∙ and_false (method.0.declared.class == class))
      ])
    where
      method : (method : Method) × (slice_get methods number ≡ Some method)
      method = there methods number within

      here : (place : ℕ) → signature ≡ place → is_some (method_of (take number methods) class place) ≡ true
      here place same =
          subst (λ place. is_some (method_of (take number methods) class place) ≡ true) same
          (ap is_some (sym (get_or_from_slice_get own signature (method_of (take number methods) class signature) cell (first signature small))) ∙ ap is_some (sym read) ∙ some)

  pub put_own : (number signature : ℕ) (own : List (Option ℕ)) (cell : Option ℕ) → number < length methods → signature ≡ signature_of methods number → signature < length methods
      → length own ≡ length methods → cell ≡ get_or own signature cell → is_some cell ≡ false → method_is methods (λ method. method.declared.class == class) number ≡ true
      → AreFirst (length methods) (method_of (take number methods) class) own
      → AreFirst (length methods) (method_of (take (number + 1) methods) class) (set own signature (Some number))
  put_own number signature own cell within its small many read none is first place below =
      elim (cases_eq place signature) as (λ _. slice_get (set own signature (Some number)) place ≡ Some (method_of (take (number + 1) methods) class place)) [
        | inl same ↦
            ap (slice_get (set own signature (Some number))) same
            ∙ slice_get_same own signature (Some number) (omega (arith, small, many))
            ∙ ap Some (sym (more number method.0 method.1 signature
            ∙ ap₂ (λ found test. option_or found (cond test (Some number) None)) empty
            (ap₂ (λ one other. one && other) (sym (own_is number method.0 method.1) ∙ is) (eq-eqb method.0.declared.signature signature (sym (its ∙ ap signature_in method.1))))))
            ∙ ap (λ place. Some (method_of (take (number + 1) methods) class place)) (sym same)
        | inr apart ↦
            slice_get_other own signature place (Some number) apart
            ∙ first place below
            ∙ ap Some (same_if number place method.0 method.1
            (ap (λ test. (method.0.declared.class == class) && test) (apart_test method.0.declared.signature place (λ same. apart (sym (its ∙ ap signature_in method.1 ∙ same)))) ∙ and_false (method.0.declared.class == class)))
      ]
    where
      method : (method : Method) × (slice_get methods number ≡ Some method)
      method = there methods number within

      none_of : (found : Option ℕ) → is_some found ≡ false → found ≡ None
      none_of None is = refl
      none_of (Some found) is = absurd (true≢false is)

      empty : method_of (take number methods) class signature ≡ None
      empty =
          sym (get_or_from_slice_get own signature (method_of (take number methods) class signature) cell (first signature small)) ∙ sym read ∙ none_of cell none
