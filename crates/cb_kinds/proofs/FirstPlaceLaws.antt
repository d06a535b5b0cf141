-- The first place of a key in a list that grows.
use Rattle.std.proofs.Common.{◌≡◌, ◌∙◌, ap, refl, sym, arith, true≢false, ℕ, ◌+◌, ◌<◌, ◌≤◌, ◌^◌, Bool, true, false, cond, eqb, ltb, not, List, [], ◌∷◌, ◌++◌, length, Option, Some, None, is_some}
use Rattle.std.specs.Prelude.{position}
use Rattle.std.specs.Cmp.{IsEquivalence}
use Rattle.std.specs.List.{position_or_len}
use Rattle.std.specs.Option.{option_or}
use Rattle.std.proofs.lemmas.Bool.Decides.{nat_tests}
use Rattle.std.proofs.lemmas.List.{length-append}
use Rattle.std.proofs.lemmas.List.Folds.{position_or_len_push}
use Rattle.std.proofs.lemmas.List.Sums.{prefix_len-le-length}
use Rattle.indexmap.specs.IndexMap.{IndexMap, Updates, get}
use Rattle.cb_kinds.specs.FirstPlaces.{HasFirsts}

-- a place that is there stays, and else the last may be the first
more : (place many later longer : ℕ) (is : Bool) → place ≤ many → later ≡ cond (eqb place many) (many + cond is 0 1) place → longer ≡ many + 1
    → cond (ltb later longer) (Some later) None ≡ option_or (cond (ltb place many) (Some place) None) (cond is (Some many) None)
more place many later longer true few places many_is = go (ltb place many) (eqb place many) refl refl places
  where
    go : (within at_end : Bool) → ltb place many ≡ within → eqb place many ≡ at_end → later ≡ cond at_end (many + 0) place
        → cond (ltb later longer) (Some later) None ≡ option_or (cond within (Some place) None) (Some many)
    go true true told also places = absurd (grind (arith, nat_tests))
    go true false told also places =
        let below : ltb later longer ≡ true = grind (arith, nat_tests) in
        ap (λ test. cond test (Some later) None) below ∙ ap Some places
    go false true told also places =
        let below : ltb later longer ≡ true = grind (arith, nat_tests) in
        let last : later ≡ many = omega arith in
        ap (λ test. cond test (Some later) None) below ∙ ap Some last
    go false false told also places = absurd (grind (arith, nat_tests))
more place many later longer false few places many_is = go (ltb place many) (eqb place many) refl refl places
  where
    go : (within at_end : Bool) → ltb place many ≡ within → eqb place many ≡ at_end → later ≡ cond at_end (many + 1) place
        → cond (ltb later longer) (Some later) None ≡ option_or (cond within (Some place) None) None
    go true true told also places = absurd (grind (arith, nat_tests))
    go true false told also places =
        let below : ltb later longer ≡ true = grind (arith, nat_tests) in
        ap (λ test. cond test (Some later) None) below ∙ ap Some places
    go false true told also places =
        let past : ltb later longer ≡ false = grind (arith, nat_tests) in
        ap (λ test. cond test (Some later) None) past
    go false false told also places = absurd (grind (arith, nat_tests))

position_push : {A : Type 0} (test : A → Bool) (items : List A) (item : A) → position test (items ++ item ∷ []) ≡ option_or (position test items) (cond (test item) (Some (length items)) None)
position_push test items item =
    more (position_or_len test items) (length items) (position_or_len test (items ++ item ∷ [])) (length (items ++ item ∷ [])) (test item)
    (prefix_len-le-length (λ other. not (test other)) items) (position_or_len_push test items item) (length-append items (item ∷ []))

module _ {K S : Type 0} (eq : K → K → Bool) (laws : IsEquivalence eq) (keys : List K) (firsts : IndexMap K ℕ S) (has : HasFirsts eq keys firsts) (key : K) (few : length keys + 1 < 2 ^ 32) where
  abbrev longer : List K
  longer = keys ++ key ∷ []

  few_more : length longer < 2 ^ 32
  few_more = omega (arith, few, length-append keys (key ∷ []))

  -- equal keys have one first place
  alike : (other : K) → eq other key ≡ true → position (eq other) keys ≡ position (eq key) keys
  alike other same = ap (λ test. position test keys) (λ i one. laws.congr other key one same i)

  -- where a key was there, the map stays
  pub again : is_some (get eq firsts key) ≡ true → HasFirsts eq longer firsts
  again there = record { few = few_more; found = λ other. has.found other ∙ go other (eq other key) refl ∙ sym (position_push (eq other) keys key) }
    where
      stays : (found : Option ℕ) → is_some found ≡ true → (last : Option ℕ) → found ≡ option_or found last
      stays None some last = absurd (true≢false (sym some))
      stays (Some place) some last = refl

      none : (found : Option ℕ) → found ≡ option_or found None
      none None = refl
      none (Some place) = refl

      go : (other : K) (test : Bool) → eq other key ≡ test → position (eq other) keys ≡ option_or (position (eq other) keys) (cond (eq other key) (Some (length keys)) None)
      go other true same = stays (position (eq other) keys) (ap is_some (alike other same ∙ sym (has.found key)) ∙ there) (cond (eq other key) (Some (length keys)) None)
      go other false same = none (position (eq other) keys) ∙ ap (λ test. option_or (position (eq other) keys) (cond test (Some (length keys)) None)) (sym same)

  -- where it wasn't, it has the last place
  pub first : (after : IndexMap K ℕ S) → is_some (get eq firsts key) ≡ false → Updates eq firsts after key (Some (length keys)) → HasFirsts eq longer after
  first after absent updates = record { few = few_more; found = λ other. updates.0 other ∙ ap (λ test. cond test (Some (length keys)) (get eq firsts other)) (laws.symm key other) ∙ go other (eq other key) refl ∙ sym (position_push (eq other) keys key) }
    where
      no_place : (found : Option ℕ) → is_some found ≡ false → found ≡ None
      no_place None none = refl
      no_place (Some place) none = absurd (true≢false none)

      no_more : (found : Option ℕ) → found ≡ option_or found None
      no_more None = refl
      no_more (Some place) = refl

      go : (other : K) (test : Bool) → eq other key ≡ test → cond (eq other key) (Some (length keys)) (get eq firsts other) ≡ option_or (position (eq other) keys) (cond (eq other key) (Some (length keys)) None)
      go other true same =
          let nowhere : position (eq other) keys ≡ None = alike other same ∙ sym (has.found key) ∙ no_place (get eq firsts key) absent in
          (λ i. cond (same i) (Some (length keys)) (get eq firsts other)) ∙ sym (λ i. option_or (nowhere i) (cond (same i) (Some (length keys)) None))
      go other false same =
          (λ i. cond (same i) (Some (length keys)) (get eq firsts other)) ∙ has.found other ∙ no_more (position (eq other) keys)
          ∙ ap (λ test. option_or (position (eq other) keys) (cond test (Some (length keys)) None)) (sym same)
