-- Lists in which each number stands once, one number after another.
use Rattle.std.proofs.Common.{◌≡◌, ℕ, ◌≢◌, ◌⊎◌, Bool, true, false, not, cond, eqb, ◌||◌, ◌==◌, List, [], ◌∷◌, ◌++◌, refl, sym, ap, subst, ◌∙◌, inl, inr, arith}
use Rattle.std.specs.List.{AllByRecursion, IsDistinct, filter, list_any}
use Rattle.std.proofs.lemmas.Bool.{ne_eqb}
use Rattle.std.proofs.lemmas.Bool.Decides.{eqb_tells, nat_tests}
use Rattle.std.proofs.lemmas.List.{append-nil, append_assoc}
use Rattle.std.proofs.lemmas.List.Elements.{filter-append}
use Rattle.cb_hierarchy.specs.Inner.{AreDistinct, AreWith, MarksList, has}
use Rattle.cb_hierarchy.specs.Orders.{distinct}

-- a number is kept where another one is left out
any_kept : (x y : ℕ) → x ≢ y → (zs : List ℕ) → list_any (λ n. n == y) (filter (λ n. not (n == x)) zs) ≡ list_any (λ n. n == y) zs
any_kept x y apart [] = refl
any_kept x y apart (z ∷ zs) = go (any_kept x y apart zs) (eqb_tells z x) (eqb_tells z y) where
  go : list_any (λ n. n == y) (filter (λ n. not (n == x)) zs) ≡ list_any (λ n. n == y) zs → ((eqb z x ≡ true) × (z ≡ x)) ⊎ ((eqb z x ≡ false) × (z ≢ x)) → ((eqb z y ≡ true) × (z ≡ y)) ⊎ ((eqb z y ≡ false) × (z ≢ y)) → list_any (λ n. n == y) (filter (λ n. not (n == x)) (z ∷ zs)) ≡ list_any (λ n. n == y) (z ∷ zs)
  go rest (inl at) (inl here) = absurd (apart (sym at.1 ∙ here.1))
  go rest (inl at) (inr here) = rw (at.0, here.0) rest
  go rest (inr at) here = rw at.0 (ap (λ b. eqb z y || b) rest)

distinct-push : (xs : List ℕ) (y : ℕ) → distinct (xs ++ y ∷ []) ≡ cond (list_any (λ n. n == y) (distinct xs)) (distinct xs) (distinct xs ++ y ∷ [])
distinct-push [] y = refl
distinct-push (x ∷ xs) y =
    ap (λ (list : List ℕ). x ∷ filter (λ n. not (n == x)) list) (distinct-push xs y)
    ∙ go (eqb_tells x y) (list_any (λ n. n == y) (distinct xs)) refl where
      go : ((eqb x y ≡ true) × (x ≡ y)) ⊎ ((eqb x y ≡ false) × (x ≢ y)) → (b : Bool) → list_any (λ n. n == y) (distinct xs) ≡ b → x ∷ filter (λ n. not (n == x)) (cond (list_any (λ n. n == y) (distinct xs)) (distinct xs) (distinct xs ++ y ∷ [])) ≡ cond (list_any (λ n. n == y) (distinct (x ∷ xs))) (distinct (x ∷ xs)) (distinct (x ∷ xs) ++ y ∷ [])
      go (inl at) true is = rw (is, at.0) refl
      go (inl at) false is =
          let same : eqb y x ≡ true = grind (arith, nat_tests) in
          rw (is, at.0) (ap (λ (list : List ℕ). x ∷ list) (filter-append (λ n. not (n == x)) (distinct xs) (y ∷ []) ∙ rw same (append-nil (filter (λ n. not (n == x)) (distinct xs)))))
      go (inr at) true is = rw (is, at.0, any_kept x y at.1 (distinct xs), is) refl
      go (inr at) false is =
          let other : eqb y x ≡ false = grind (arith, nat_tests) in
          rw (is, at.0, any_kept x y at.1 (distinct xs), is) (ap (λ (list : List ℕ). x ∷ list) (filter-append (λ n. not (n == x)) (distinct xs) (y ∷ []) ∙ rw other refl))

-- the numbers are the same, and no two are equal
pub any_distinct : (n : ℕ) (xs : List ℕ) → list_any (λ k. k == n) (distinct xs) ≡ list_any (λ k. k == n) xs
any_distinct n [] = refl
any_distinct n (x ∷ xs) = go (any_distinct n xs) (eqb_tells x n) where
  go : list_any (λ k. k == n) (distinct xs) ≡ list_any (λ k. k == n) xs → ((eqb x n ≡ true) × (x ≡ n)) ⊎ ((eqb x n ≡ false) × (x ≢ n)) → list_any (λ k. k == n) (distinct (x ∷ xs)) ≡ list_any (λ k. k == n) (x ∷ xs)
  go rest (inl same) = rw same.0 refl
  go rest (inr apart) = ap (λ b. eqb x n || b) (any_kept x n apart.1 (distinct xs) ∙ rest)

all_filtered : (P : ℕ → Type 0) (p : ℕ → Bool) (xs : List ℕ) → AllByRecursion P xs → AllByRecursion P (filter p xs)
all_filtered P p [] all = all
all_filtered P p (x ∷ xs) all = go (p x) (all_filtered P p xs all.1) where
  go : (b : Bool) → AllByRecursion P (filter p xs) → AllByRecursion P (cond b (x ∷ filter p xs) (filter p xs))
  go true rest = (all.0, rest)
  go false rest = rest

left_out : (x : ℕ) (ys : List ℕ) → AllByRecursion (λ y. eqb x y ≡ false) (filter (λ n. not (n == x)) ys)
left_out x [] = tt
left_out x (y ∷ ys) = go (left_out x ys) (eqb_tells y x) where
  go : AllByRecursion (λ y. eqb x y ≡ false) (filter (λ n. not (n == x)) ys) → ((eqb y x ≡ true) × (y ≡ x)) ⊎ ((eqb y x ≡ false) × (y ≢ x)) → AllByRecursion (λ y. eqb x y ≡ false) (filter (λ n. not (n == x)) (y ∷ ys))
  go rest (inl same) = rw same.0 rest
  go rest (inr apart) = rw apart.0 (ne_eqb x y (λ e. apart.1 (sym e)), rest)

filtered_distinct : (p : ℕ → Bool) (xs : List ℕ) → IsDistinct eqb xs → IsDistinct eqb (filter p xs)
unfolding IsDistinct
filtered_distinct p [] is = tt
filtered_distinct p (x ∷ xs) is = go (p x) (filtered_distinct p xs is.1) where
  go : (b : Bool) → IsDistinct eqb (filter p xs) → IsDistinct eqb (cond b (x ∷ filter p xs) (filter p xs))
  go true rest = (all_filtered (λ y. eqb x y ≡ false) p xs is.0, rest)
  go false rest = rest

pub distinct_is : (xs : List ℕ) → IsDistinct eqb (distinct xs)
unfolding IsDistinct
distinct_is [] = tt
distinct_is (x ∷ xs) = (left_out x (distinct xs), filtered_distinct (λ n. not (n == x)) (distinct xs) (distinct_is xs))

-- numbers that are taken later stand behind
pub distinct_later : (xs ys : List ℕ) → (zs : List ℕ) × (distinct (xs ++ ys) ≡ distinct xs ++ zs)
distinct_later xs [] = ([], ap distinct (append-nil xs) ∙ sym (append-nil (distinct xs)))
distinct_later xs (y ∷ ys) = go (list_any (λ n. n == y) (distinct xs)) refl (distinct_later (xs ++ y ∷ []) ys) where
  go : (b : Bool) → list_any (λ n. n == y) (distinct xs) ≡ b → (zs : List ℕ) × (distinct (xs ++ y ∷ [] ++ ys) ≡ distinct (xs ++ y ∷ []) ++ zs) → (zs : List ℕ) × (distinct (xs ++ y ∷ ys) ≡ distinct xs ++ zs)
  go true is (zs, later) = (zs, ap distinct (sym (append_assoc xs (y ∷ []) ys)) ∙ later ∙ ap (λ (list : List ℕ). list ++ zs) (rw is at (distinct-push xs y)))
  go false is (zs, later) = (
    y ∷ zs,
    ap distinct (sym (append_assoc xs (y ∷ []) ys)) ∙ later ∙ ap (λ (list : List ℕ). list ++ zs) (rw is at (distinct-push xs y)) ∙ append_assoc (distinct xs) (y ∷ []) zs,
  )

or_assoc : (a b c : Bool) → (a || (b || c)) ≡ ((a || b) || c)
or_assoc true b c = refl
or_assoc false b c = refl

pub list_any-append : (p : ℕ → Bool) (xs ys : List ℕ) → list_any p (xs ++ ys) ≡ (list_any p xs || list_any p ys)
list_any-append p [] ys = refl
list_any-append p (x ∷ xs) ys = ap (λ b. p x || b) (list_any-append p xs ys) ∙ or_assoc (p x) (list_any p xs) (list_any p ys)

-- the marks of a list and of one number more
pub marks_more : (taken : List ℕ) (number : ℕ) (before marks : List Bool) → MarksList taken before → AreWith before number marks → MarksList (taken ++ number ∷ []) marks
marks_more taken number before marks are marked other =
    let turned : list_any (λ n. n == other) (number ∷ []) ≡ (other == number) = grind (arith, nat_tests) in
    marked other ∙ ap (λ b. b || (other == number)) (are other) ∙ ap (λ b. list_any (λ n. n == other) taken || b) (sym turned) ∙ sym (list_any-append (λ n. n == other) taken (number ∷ []))

-- a number that isn't marked
pub once_more : (taken numbers more : List ℕ) (marks marks' : List Bool) (number : ℕ) → AreDistinct taken numbers marks → has marks number ≡ false → AreWith marks number marks' → more ≡ numbers ++ number ∷ [] → AreDistinct (taken ++ number ∷ []) more marks'
once_more taken numbers more marks marks' number are unmarked marked added =
    let new : list_any (λ n. n == number) (distinct taken) ≡ false = ap (list_any (λ n. n == number)) (sym are.once) ∙ sym (are.marked number) ∙ unmarked in
    record {
      once = added ∙ ap (λ (list : List ℕ). list ++ number ∷ []) are.once ∙ sym (rw new at (distinct-push taken number));
      marked = subst (λ (list : List ℕ). MarksList list marks') (sym added) (marks_more numbers number marks marks' are.marked marked);
    }

-- one that is marked
pub once_again : (taken numbers : List ℕ) (marks : List Bool) (number : ℕ) → AreDistinct taken numbers marks → has marks number ≡ true → AreDistinct (taken ++ number ∷ []) numbers marks
once_again taken numbers marks number are marked =
    let known : list_any (λ n. n == number) (distinct taken) ≡ true = ap (list_any (λ n. n == number)) (sym are.once) ∙ sym (are.marked number) ∙ marked in
    record { once = are.once ∙ sym (rw known at (distinct-push taken number)); marked = are.marked }
