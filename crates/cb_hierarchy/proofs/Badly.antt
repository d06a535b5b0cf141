-- The classes that can't be in a hierarchy, by tests.
use Rattle.std.proofs.Common.{◌≡◌, ℕ, ◌+◌, ◌<◌, ◌≢◌, Bool, true, false, not, eqb, ◌||◌, ◌&&◌, ◌==◌, List, [], ◌∷◌, ◌++◌, length, set, Option, Some, None, refl, sym, ap, subst, ◌∙◌, inl, inr, arith, get_or-set_same, get_or-set_other}
use Rattle.std.specs.Prelude.{slice_get}
use Rattle.std.specs.List.{Contains}
use Rattle.std.proofs.lemmas.Bool.{and_from, and_parts, cases_eq, eq-eqb, eqb-true, false≢true, not-true, not_from_false, or_cases, or_left, or_right}
use Rattle.std.proofs.lemmas.List.Elements.{Contains-append_left, Contains-push, Contains-push_cases}
use Rattle.std.proofs.lemmas.Option.{same_Some, slice_get_within}
use Rattle.cb_hierarchy.specs.declared.class.Class.{Class}
use Rattle.cb_hierarchy.specs.declared.member.Method.{Method}
use Rattle.cb_hierarchy.specs.Above.{IsAbove}
use Rattle.cb_hierarchy.specs.Bad.{ExtendsFinal, ExtendsInterface, ImplementsClass, IsBad, IsItsOwn, Overrides, OverridesFinal}
use Rattle.cb_hierarchy.specs.Classes.{is_final, is_interface, parents, superclass, superinterfaces}
use Rattle.cb_hierarchy.specs.InnerFinals.{AreFinals, extends_badly, implements_badly, is_bad, is_final_of, overrides_final, overrides_some, overrides_this}
use Rattle.cb_hierarchy.specs.Inner.{AreWith, has, list_at}
use Rattle.cb_hierarchy.specs.InnerReaching.{signature_of}
use Rattle.cb_hierarchy.specs.Resolution.{is_private, method_is}
use Rattle.cb_hierarchy.specs.InnerRows.{MarkAbove, marked}
use Rattle.cb_hierarchy.specs.Selection.{is_seen, overrides_openly, seen}
use Rattle.cb_hierarchy.proofs.Closing.{any_found, any_here}

-- what is so of the method of a number
pub method_at : (methods : List Method) (test : Method → Bool) (number : ℕ) (method : Method) → slice_get methods number ≡ Some method → method_is methods test number ≡ test method
method_at methods test number method is = rw is refl

pub signature_at : (methods : List Method) (number : ℕ) (method : Method) → slice_get methods number ≡ Some method → signature_of methods number ≡ method.declared.signature
signature_at methods number method is = rw is refl

pub method_found : (methods : List Method) (test : Method → Bool) (number : ℕ) → method_is methods test number ≡ true → (method : Method) × (slice_get methods number ≡ Some method) × (test method ≡ true)
method_found methods test number is = go (slice_get methods number) refl where
  go : (found : Option Method) → slice_get methods number ≡ found → (method : Method) × (slice_get methods number ≡ Some method) × (test method ≡ true)
  go None none = absurd (false≢true ((rw none refl) ∙ is))
  go (Some method) some = (method, some, sym (method_at methods test number method some) ∙ is)

module _ (methods : List Method) (k s : ℕ) (method : Method) (at : slice_get methods k ≡ Some method) (of : method.declared.signature ≡ s) (lists : List (List ℕ)) (list : List ℕ) (within : s < length lists) (more : list ≡ list_at lists s ++ k ∷ []) where
  at_same : list_at (set lists s list) s ≡ list_at lists s ++ k ∷ []
  at_same = get_or-set_same lists s list [] within ∙ more

  at_other : (signature : ℕ) → signature ≢ s → list_at (set lists s list) signature ≡ list_at lists signature
  at_other signature apart = get_or-set_other lists s signature list [] apart

  kept : (signature number : ℕ) → Contains (list_at lists signature) number → Contains (list_at (set lists s list) signature) number
  kept signature number among = elim (cases_eq signature s) [
    | inl same ↦
        subst (λ n. Contains (list_at lists n) number → Contains (list_at (set lists s list) n) number) (sym same)
        (λ among. subst (λ list. Contains list number) (sym at_same) (Contains-append_left (list_at lists s) (k ∷ []) number among)) among
    | inr apart ↦ subst (λ list. Contains list number) (sym (at_other signature apart)) among
  ]

  -- a final method more
  pub finals_more : method.is_final ≡ true → method.is_static ≡ false → AreFinals methods k lists → AreFinals methods (k + 1) (set lists s list)
  finals_more final instance are = record {
    only = λ signature number among. elim (cases_eq signature s) [
      | inl same ↦ subst (λ n. is_final_of methods n number ≡ true) (sym same)
          (elim (Contains-push_cases (list_at lists s) k number (subst (λ list. Contains list number) at_same (subst (λ n. Contains (list_at (set lists s list) n) number) same among))) [
            | inl before ↦ are.only s number before
            | inr here ↦ subst (λ n. is_final_of methods s n ≡ true) here itself
          ])
      | inr apart ↦ are.only signature number (subst (λ list. Contains list number) (at_other signature apart) among)
    ];
    all = λ signature number less is. elim (cases_eq number k) [
      | inl same ↦
          let here = sym (method_at methods (λ method. (method.declared.signature == signature) && (method.is_final && not method.is_static)) k method at) ∙ subst (λ n. is_final_of methods signature n ≡ true) same is in
          let alike : s ≡ signature = sym of ∙ eqb-true method.declared.signature signature (and_parts (eqb method.declared.signature signature) (method.is_final && not method.is_static) here).0 in
          subst (λ n. Contains (list_at (set lists s list) n) number) alike (subst (Contains (list_at (set lists s list) s)) (sym same) (subst (λ list. Contains list k) (sym at_same) (Contains-push (list_at lists s) k)))
      | inr apart ↦ kept signature number (are.all signature number (omega arith) is)
    ];
  } where
    itself : is_final_of methods s k ≡ true
    itself =
        method_at methods (λ method. (method.declared.signature == s) && (method.is_final && not method.is_static)) k method at
        ∙ and_from (eqb method.declared.signature s) (method.is_final && not method.is_static) (eq-eqb method.declared.signature s of) (and_from method.is_final (not method.is_static) final (not_from_false method.is_static instance))

-- these marks are of classes that override a final method, and of all that do by one of the first so many methods
pub record AreOver (classes : List Class) (methods : List Method) (count : ℕ) (marks : List Bool) : Type 0 where
  pub sound : (class : ℕ) → has marks class ≡ true → OverridesFinal classes methods class
  pub complete : (class : ℕ) (how : OverridesFinal classes methods class) → how.one < count → has marks class ≡ true

pub over_none : (classes : List Class) (methods : List Method) (marks : List Bool) → ((class : ℕ) → has marks class ≡ false) → AreOver classes methods 0 marks
over_none classes methods marks none = record {
  sound = λ class is. absurd (false≢true (sym (none class) ∙ is));
  complete = λ class how less. absurd (omega (arith, less));
}

module _ (classes : List Class) (methods : List Method) (rows : List (List Bool)) (marks : MarkAbove (superclass classes) rows) (lists : List (List ℕ)) (are : AreFinals methods (length methods) lists) where
  openly : (one other : ℕ) (own final : Method) → slice_get methods one ≡ Some own → slice_get methods other ≡ Some final → overrides_openly classes methods one other ≡ (not (is_private own.visibility) && is_seen classes final.visibility final.declared.class own.declared.class)
  openly one other own final at there = ap (λ (method : Option Method). seen classes method (slice_get methods other)) at ∙ ap (λ (method : Option Method). seen classes (Some own) method) there

  -- what the test finds
  found_one : (one : ℕ) (own : Method) → slice_get methods one ≡ Some own → overrides_final classes methods rows lists one ≡ true → OverridesFinal classes methods own.declared.class
  found_one one own at is =
      let here = and_parts (not own.is_static) (overrides_some classes methods rows own (list_at lists own.declared.signature))
      (sym (method_at methods (λ own. not own.is_static && overrides_some classes methods rows own (list_at lists own.declared.signature)) one own at) ∙ is) in
      let found = any_found (method_is methods (overrides_this classes rows own)) (list_at lists own.declared.signature) here.1 in
      let final = method_found methods (overrides_this classes rows own) found.0 found.2 in
      let by = and_parts (marked rows own.declared.class final.0.declared.class) (not (is_private own.visibility) && is_seen classes final.0.visibility final.0.declared.class own.declared.class) final.2 in
      let of = and_parts (eqb final.0.declared.signature own.declared.signature) (final.0.is_final && not final.0.is_static)
      (sym (method_at methods (λ method. (method.declared.signature == own.declared.signature) && (method.is_final && not method.is_static)) found.0 final.0 final.1) ∙ are.only own.declared.signature found.0 found.1) in
      let kind = and_parts final.0.is_final (not final.0.is_static) of.1 in
      record {
        one = one;
        other = found.0;
        own = own;
        final = final.0;
        declares = at;
        inherits = final.1;
        of_class = refl;
        of_superclass = (marks own.declared.class final.0.declared.class).0 by.0;
        alike = sym (eqb-true final.0.declared.signature own.declared.signature of.0);
        instances = (not-true own.is_static here.0, not-true final.0.is_static kind.1);
        marked = kind.0;
        overridden = openly one found.0 own final.0 at final.1 ∙ by.1;
      }

  -- and that it finds each
  told_one : (class : ℕ) (how : OverridesFinal classes methods class) → overrides_final classes methods rows lists how.one ≡ true
  told_one class how =
      let own = how.own in
      let final = how.final in
      let signature = own.declared.signature in
      let above = subst (λ n. IsAbove (superclass classes) n final.declared.class) (sym how.of_class) how.of_superclass in
      let listed = are.all signature how.other (slice_get_within methods how.other final how.inherits)
      (method_at methods (λ method. (method.declared.signature == signature) && (method.is_final && not method.is_static)) how.other final how.inherits
      ∙ and_from (eqb final.declared.signature signature) (final.is_final && not final.is_static) (eq-eqb final.declared.signature signature (sym how.alike)) (and_from final.is_final (not final.is_static) how.marked (not_from_false final.is_static how.instances.1))) in
      let this = method_at methods (overrides_this classes rows own) how.other final how.inherits
      ∙ and_from (marked rows own.declared.class final.declared.class) (not (is_private own.visibility) && is_seen classes final.visibility final.declared.class own.declared.class)
      ((marks own.declared.class final.declared.class).1 above) (sym (openly how.one how.other own final how.declares how.inherits) ∙ how.overridden) in
      method_at methods (λ own. not own.is_static && overrides_some classes methods rows own (list_at lists own.declared.signature)) how.one own how.declares
      ∙ and_from (not own.is_static) (overrides_some classes methods rows own (list_at lists signature)) (not_from_false own.is_static how.instances.0)
      (any_here (method_is methods (overrides_this classes rows own)) (list_at lists signature) how.other listed this)

  -- one method more
  pub over_more : (k : ℕ) (own : Method) (before after : List Bool) → slice_get methods k ≡ Some own → overrides_final classes methods rows lists k ≡ true → AreWith before own.declared.class after → AreOver classes methods k before → AreOver classes methods (k + 1) after
  over_more k own before after at is with_it over = record {
    sound = λ class marked. elim (or_cases (has before class) (eqb class own.declared.class) (sym (with_it class) ∙ marked)) [
      | inl already ↦ over.sound class already
      | inr here ↦ subst (OverridesFinal classes methods) (sym (eqb-true class own.declared.class here)) (found_one k own at is)
    ];
    complete = λ class how less. with_it class ∙ elim (cases_eq how.one k) [
      | inl same ↦
          let itself : how.own ≡ own = same_Some how.own own (sym how.declares ∙ ap (slice_get methods) same ∙ at) in
          or_right (has before class) (eqb class own.declared.class) (eq-eqb class own.declared.class (sym how.of_class ∙ ap (λ (method : Method). method.declared.class) itself))
      | inr apart ↦ or_left (has before class) (eqb class own.declared.class) (over.complete class how (omega arith))
    ];
  }

  pub over_same : (k : ℕ) (before : List Bool) → overrides_final classes methods rows lists k ≡ false → AreOver classes methods k before → AreOver classes methods (k + 1) before
  over_same k before is over = record {
    sound = over.sound;
    complete = λ class how less. elim (cases_eq how.one k) [
      | inl same ↦ absurd (false≢true (sym is ∙ subst (λ n. overrides_final classes methods rows lists n ≡ true) same (told_one class how)))
      | inr apart ↦ over.complete class how (omega arith)
    ];
  }

-- all of them
pub over_all : (classes : List Class) (methods : List Method) (marks : List Bool) → AreOver classes methods (length methods) marks → (class : ℕ) → (has marks class ≡ true → OverridesFinal classes methods class) × (OverridesFinal classes methods class → has marks class ≡ true)
over_all classes methods marks over class = (over.sound class, λ how. over.complete class how (slice_get_within methods how.one how.own how.declares))

module _ (classes : List Class) (methods : List Method) (above : List (List Bool)) (marks : MarkAbove (parents classes) above) (over : List Bool) (overs : (class : ℕ) → (has over class ≡ true → OverridesFinal classes methods class) × (OverridesFinal classes methods class → has over class ≡ true)) where
  extends : (class : ℕ) → extends_badly classes (superclass classes class) ≡ true → IsBad classes methods class
  extends class is =
      let found = any_found (λ other. is_interface classes other || is_final classes other) (superclass classes class) is in
      elim (or_cases (is_interface classes found.0) (is_final classes found.0) found.2) [
        | inl interface ↦ ExtendsInterface found.0 found.1 interface
        | inr final ↦ ExtendsFinal found.0 found.1 final
      ]

  implements : (class : ℕ) → implements_badly classes (superinterfaces classes class) ≡ true → IsBad classes methods class
  implements class is =
      let found = any_found (λ other. not (is_interface classes other)) (superinterfaces classes class) is in
      ImplementsClass found.0 found.1 (not-true (is_interface classes found.0) found.2)

  pub bad_found : (class : ℕ) → is_bad classes above over class ≡ true → IsBad classes methods class
  bad_found class is =
      elim (or_cases (marked above class class || has over class) (extends_badly classes (superclass classes class) || implements_badly classes (superinterfaces classes class)) is) [
        | inl itself ↦ elim (or_cases (marked above class class) (has over class) itself) [
          | inl own ↦ IsItsOwn ((marks class class).0 own)
          | inr how ↦ Overrides ((overs class).0 how)
        ]
        | inr by ↦ elim (or_cases (extends_badly classes (superclass classes class)) (implements_badly classes (superinterfaces classes class)) by) [
          | inl one ↦ extends class one
          | inr one ↦ implements class one
        ]
      ]

  itself_told : (class : ℕ) → (marked above class class || has over class) ≡ true → is_bad classes above over class ≡ true
  itself_told class is = or_left (marked above class class || has over class) (extends_badly classes (superclass classes class) || implements_badly classes (superinterfaces classes class)) is

  named_told : (class : ℕ) → (extends_badly classes (superclass classes class) || implements_badly classes (superinterfaces classes class)) ≡ true → is_bad classes above over class ≡ true
  named_told class is = or_right (marked above class class || has over class) (extends_badly classes (superclass classes class) || implements_badly classes (superinterfaces classes class)) is

  extends_told : (class other : ℕ) → Contains (superclass classes class) other → (is_interface classes other || is_final classes other) ≡ true → is_bad classes above over class ≡ true
  extends_told class other among is =
      named_told class (or_left (extends_badly classes (superclass classes class)) (implements_badly classes (superinterfaces classes class)) (any_here (λ other. is_interface classes other || is_final classes other) (superclass classes class) other among is))

  pub bad_told : (class : ℕ) → IsBad classes methods class → is_bad classes above over class ≡ true
  bad_told class (IsItsOwn own) = itself_told class (or_left (marked above class class) (has over class) ((marks class class).1 own))
  bad_told class (Overrides how) = itself_told class (or_right (marked above class class) (has over class) ((overs class).1 how))
  bad_told class (ExtendsInterface other among is) = extends_told class other among (or_left (is_interface classes other) (is_final classes other) is)
  bad_told class (ExtendsFinal other among is) = extends_told class other among (or_right (is_interface classes other) (is_final classes other) is)
  bad_told class (ImplementsClass other among is) =
      named_told class (or_right (extends_badly classes (superclass classes class)) (implements_badly classes (superinterfaces classes class))
      (any_here (λ other. not (is_interface classes other)) (superinterfaces classes class) other among (not_from_false (is_interface classes other) is)))

  pub not_bad : (class : ℕ) → is_bad classes above over class ≡ false → IsBad classes methods class → ⊥
  not_bad class is bad = false≢true (sym is ∙ bad_told class bad)
