-- What a binary search finds in a table whose keys ascend.
use Rattle.std.proofs.Common.{◌≡◌, ◌∙◌, sym, ap, subst, inl, inr, arith, zero, suc, ℕ, ◌+◌, ◌-◌, ◌<◌, ◌≤◌, cond, eqb, List, [], ◌∷◌, length, map, get_or, Option, Some, None, Result, Ok, Err, MatchResult}
use Rattle.std.specs.List.Sorted.{IsSearchInRange, IsBinarySearchResult, IsNonDecreasingBy}
use Rattle.std.specs.Ordering.{nat_cmp, ordering_index}
use Rattle.std.proofs.lemmas.Bool.{cases_lt, eq-eqb, ne_eqb}
use Rattle.std.proofs.lemmas.Bool.Decides.{nat_tests}
use Rattle.std.proofs.lemmas.Cmp.{ranked}
use Rattle.cb_points_to.specs.Made.{AreAbove, Ascend}

-- keys that ascend
module _ {X : Type 0} (key : X → ℕ) where
  above_all : (low : ℕ) (xs : List X) (k : ℕ) (d : X) → AreAbove low (map key xs) → k < length xs → low < key (get_or xs k d)
  above_all low [] k d above within = absurd (omega arith)
  above_all low (x ∷ xs) zero d above within = above.0
  above_all low (x ∷ xs) (suc k) d above within = omega (arith, above.0, above_all (key x) xs k d above.1 (omega arith))

  ascend_rest : (low : ℕ) (xs : List X) → AreAbove low (map key xs) → Ascend (map key xs)
  ascend_rest low [] above = tt
  ascend_rest low (x ∷ xs) above = above.1

  rise : (xs : List X) (i j : ℕ) (d : X) → Ascend (map key xs) → i ≤ j → j < length xs → key (get_or xs i d) ≤ key (get_or xs j d)
  rise [] i j d ascend le within = absurd (omega arith)
  rise (x ∷ xs) zero zero d ascend le within = omega arith
  rise (x ∷ xs) zero (suc j) d ascend le within = omega (arith, above_all (key x) xs j d ascend (omega arith))
  rise (x ∷ xs) (suc i) zero d ascend le within = absurd (omega arith)
  rise (x ∷ xs) (suc i) (suc j) d ascend le within = rise xs i j d (ascend_rest (key x) xs ascend) (omega arith) (omega arith)

  -- each is above the one before it, and that is all
  pub above_before : (xs : List X) (k : ℕ) (d : X) → Ascend (map key xs) → suc k < length xs → key (get_or xs k d) < key (get_or xs (suc k) d)
  above_before [] k d ascend within = absurd (omega arith)
  above_before (x ∷ xs) zero d ascend within = above_all (key x) xs 0 d ascend (omega arith)
  above_before (x ∷ xs) (suc k) d ascend within = above_before xs k d (ascend_rest (key x) xs ascend) (omega arith)

  all_above : (x : X) (xs : List X) → ((k : ℕ) (d : X) → k < length xs → key (get_or (x ∷ xs) k d) < key (get_or xs k d)) → AreAbove (key x) (map key xs)
  all_above x [] above = tt
  all_above x (y ∷ xs) above = (above 0 x (omega arith), all_above y xs (λ k d within. above (suc k) d (omega arith)))

  pub ascend_by : (xs : List X) → ((k : ℕ) (d : X) → k < length xs - 1 → key (get_or xs k d) < key (get_or xs (suc k) d)) → Ascend (map key xs)
  ascend_by [] above = tt
  ascend_by (x ∷ xs) above = all_above x xs (λ k d within. above k d (omega arith))

  pub not_above : (xs : List X) (at : ℕ) (d : X) → 1 ≤ at → at < length xs → key (get_or xs at d) ≤ key (get_or xs (at - 1) d) → Ascend (map key xs) → ⊥
  not_above xs at d some within low ascend =
      let e : suc (at - 1) ≡ at = omega arith in
      let above : key (get_or xs (at - 1) d) < key (get_or xs at d) = subst (λ n. key (get_or xs (at - 1) d) < key (get_or xs n d)) e (above_before xs (at - 1) d ascend (omega arith)) in
      omega arith

  pub ascend_all : (xs : List X) (at : ℕ) → ((k : ℕ) (d : X) → k < at - 1 → key (get_or xs k d) < key (get_or xs (k + 1) d)) → length xs ≤ at → Ascend (map key xs)
  ascend_all xs at above past = ascend_by xs (λ k d low.
      let e : k + 1 ≡ suc k = omega arith in
      subst (λ n. key (get_or xs k d) < key (get_or xs n d)) e (above k d (omega arith)))

  orders_rise : (xs : List X) (site : ℕ) → Ascend (map key xs) → IsNonDecreasingBy (λ x. ordering_index (nat_cmp (key x) site)) xs
  orders_rise xs site ascend = λ i j d le within. higher (key (get_or xs i d)) (key (get_or xs j d)) (rise xs i j d ascend le within)
    where
      higher : (a b : ℕ) → a ≤ b → ordering_index (nat_cmp a site) ≤ ordering_index (nat_cmp b site)
      higher a b le = grind (arith, nat_tests)

-- what is found by the first key that is the one that is looked for
module _ {X Y : Type 0} (key : X → ℕ) (value : X → Y) (found : List X → ℕ → Option Y) (none : (site : ℕ) → found [] site ≡ None)
    (some : (x : X) (xs : List X) (site : ℕ) → found (x ∷ xs) site ≡ cond (eqb (key x) site) (Some (value x)) (found xs site)) where
  absent : (xs : List X) (site : ℕ) → ((k : ℕ) (d : X) → k < length xs → key (get_or xs k d) ≡ site → ⊥) → found xs site ≡ None
  absent [] site never = none site
  absent (x ∷ xs) site never =
      some x xs site
      ∙ ap (λ b. cond b (Some (value x)) (found xs site)) (ne_eqb (key x) site (never 0 x (omega arith)))
      ∙ absent xs site (λ k d within. never (suc k) d (omega arith))

  present : (xs : List X) (i : ℕ) (d : X) (site : ℕ) → i < length xs → key (get_or xs i d) ≡ site → Ascend (map key xs) → found xs site ≡ Some (value (get_or xs i d))
  present [] i d site within is ascend = absurd (omega arith)
  present (x ∷ xs) zero d site within is ascend = some x xs site ∙ ap (λ b. cond b (Some (value x)) (found xs site)) (eq-eqb (key x) site is)
  present (x ∷ xs) (suc i) d site within is ascend =
      some x xs site
      ∙ ap (λ b. cond b (Some (value x)) (found xs site)) (ne_eqb (key x) site (λ e. absurd (omega (arith, e, is, above_all key (key x) xs i d ascend (omega arith)))))
      ∙ present xs i d site (omega arith) is (ascend_rest key (key x) xs ascend)

  pub located : (xs : List X) (site : ℕ) (r : Result ℕ ℕ) → Ascend (map key xs) → IsSearchInRange r (length xs) → IsBinarySearchResult (λ x. nat_cmp (key x) site) xs r
      → MatchResult r (λ i. (d : X) → found xs site ≡ Some (value (get_or xs i d))) (λ i. found xs site ≡ None)
  located xs site (Ok i) ascend within equal = λ d. present xs i d site within (ranked (key (get_or xs i d)) site _ (sym (equal d))) ascend
  located xs site (Err i) ascend within parted =
      let parts = parted (orders_rise key xs site ascend) in
      absent xs site (λ k d low same. elim (cases_lt k i) [
        | inl l ↦ absurd (let less : key (get_or xs k d) < site = ranked (key (get_or xs k d)) site _ (sym (parts.0 k d (omega arith) l)) in omega arith)
        | inr p ↦ absurd (let more : site < key (get_or xs k d) = ranked (key (get_or xs k d)) site _ (sym (parts.1 k d p low)) in omega arith)
      ])
