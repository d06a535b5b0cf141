-- What is above a class, by the parents of one number after another.
use Rattle.std.proofs.Common.{◌≡◌, ℕ, zero, suc, ◌+◌, ◌<◌, ◌≤◌, ◌⊎◌, Bool, true, false, ◌||◌, ◌==◌, eqb, List, [], ◌∷◌, ◌++◌, length, take, get_or, refl, sym, ap, subst, ◌∙◌, inl, inr, arith}
use Rattle.std.specs.List.{Contains, IsDistinct, flat_map, list_any}
use Rattle.std.proofs.lemmas.Bool.{cases_Bool, cases_eq, cases_lt, eq-eqb, eqb-true, false≢true, or_left, or_right}
use Rattle.std.proofs.lemmas.List.{append-nil, flat_map_more, get_or_append_left, get_or_past, get_or_push, length-append, take-append-le, take_all, take_more}
use Rattle.std.proofs.lemmas.List.Elements.{Contains-append_cases, Contains-append_left, Contains-append_right, Contains-get_or}
use Rattle.std.proofs.lemmas.Map.Steps.{length-le_from_distinct_below}
use Rattle.cb_hierarchy.specs.Above.{Direct, IsAbove, Through}
use Rattle.cb_hierarchy.specs.Inner.{AreDistinct, list_at}
use Rattle.cb_hierarchy.specs.Orders.{distinct}
use Rattle.cb_hierarchy.specs.InnerRows.{ListsAbove, MarkAbove, MarkLists}
use Rattle.cb_hierarchy.proofs.Once.{any_distinct, distinct_is, distinct_later}

-- one that passes a test
pub any_found : (test : ℕ → Bool) (xs : List ℕ) → list_any test xs ≡ true → (x : ℕ) × Contains xs x × (test x ≡ true)
any_found test [] is = absurd (false≢true is)
any_found test (y ∷ ys) is = go (cases_Bool (test y)) (any_found test ys) where
  go : (test y ≡ true) ⊎ (test y ≡ false) → (list_any test ys ≡ true → (x : ℕ) × Contains ys x × (test x ≡ true)) → (x : ℕ) × Contains (y ∷ ys) x × (test x ≡ true)
  go (inl here) rest = (y, (0, omega arith, refl), here)
  go (inr not_here) rest = let found = rest (sym (ap (λ b. b || list_any test ys) not_here) ∙ is) in (found.0, Contains-append_right (y ∷ []) ys found.0 found.1, found.2)

pub any_here : (test : ℕ → Bool) (xs : List ℕ) (x : ℕ) → Contains xs x → test x ≡ true → list_any test xs ≡ true
any_here test [] x among is = absurd (omega (arith, among.1))
any_here test (y ∷ ys) x (zero, within, here) is = or_left (test y) (list_any test ys) (ap test here ∙ is)
any_here test (y ∷ ys) x (suc k, within, here) is = or_right (test y) (list_any test ys) (any_here test ys x (k, omega (arith, within), here) is)

-- membership, by a test
pub contains_any : (xs : List ℕ) (x : ℕ) → list_any (λ n. n == x) xs ≡ true → Contains xs x
contains_any xs x is = let found = any_found (λ n. n == x) xs is in subst (Contains xs) (eqb-true found.0 x found.2) found.1

pub any_contains : (xs : List ℕ) (x : ℕ) → Contains xs x → list_any (λ n. n == x) xs ≡ true
any_contains xs x among = any_here (λ n. n == x) xs x among (eq-eqb x x refl)

-- above what is above
above_above : (parents : ℕ → List ℕ) (one two three : ℕ) → IsAbove parents one two → IsAbove parents two three → IsAbove parents one three
above_above parents one two three (Direct class parent among) next = Through one two three among next
above_above parents one two three (Through class parent other among rest) next = Through one parent three among (above_above parents parent two three rest next)

-- by other parents, which are the same
above_along : (one other : ℕ → List ℕ) → ((class : ℕ) → one class ≡ other class) → (class above : ℕ) → IsAbove one class above → IsAbove other class above
above_along one other same class above (Direct from parent among) = Direct class above (subst (λ list. Contains list above) (same class) among)
above_along one other same class above (Through from parent to among rest) =
    Through class parent above (subst (λ list. Contains list parent) (same class) among) (above_along one other same parent above rest)

pub marks_along : (one other : ℕ → List ℕ) (rows : List (List Bool)) → ((class : ℕ) → one class ≡ other class) → MarkAbove one rows → MarkAbove other rows
marks_along one other rows same marks class above =
    (λ is. above_along one other same class above ((marks class above).0 is), λ is. (marks class above).1 (above_along other one (λ class. sym (same class)) class above is))

-- above what is named, and a number that names another is there
above_next : (parents : ℕ → List ℕ) (one two three : ℕ) → IsAbove parents one two → Contains (parents two) three → IsAbove parents one three
above_next parents one two three above among = above_above parents one two three above (Direct two three among)

above_below : (parents : ℕ → List ℕ) (count : ℕ) → ((class parent : ℕ) → Contains (parents class) parent → parent < count) → (class other : ℕ) → IsAbove parents class other → other < count
above_below parents count below class other (Direct from to among) = below class other among
above_below parents count below class other (Through from parent to among rest) = above_below parents count below parent other rest

-- the lists of several numbers
flat_map_found : (f : ℕ → List ℕ) (ks : List ℕ) (n : ℕ) → Contains (flat_map f ks) n → (k : ℕ) × Contains ks k × Contains (f k) n
flat_map_found f [] n among = absurd (omega (arith, among.1))
flat_map_found f (k ∷ ks) n among = go (Contains-append_cases (f k) (flat_map f ks) n among) (flat_map_found f ks n) where
  go : Contains (f k) n ⊎ Contains (flat_map f ks) n → (Contains (flat_map f ks) n → (k : ℕ) × Contains ks k × Contains (f k) n) → (k' : ℕ) × Contains (k ∷ ks) k' × Contains (f k') n
  go (inl here) rest = (k, (0, omega arith, refl), here)
  go (inr later) rest = let found = rest later in (found.0, Contains-append_right (k ∷ []) ks found.0 found.1, found.2)

flat_map_holds : (f : ℕ → List ℕ) (ks : List ℕ) (k n : ℕ) → Contains ks k → Contains (f k) n → Contains (flat_map f ks) n
flat_map_holds f [] k n among of = absurd (omega (arith, among.1))
flat_map_holds f (x ∷ ks) k n (zero, within, is) of = Contains-append_left (f x) (flat_map f ks) n (subst (λ k. Contains (f k) n) (sym is) of)
flat_map_holds f (x ∷ ks) k n (suc i, within, is) of = Contains-append_right (f x) (flat_map f ks) n (flat_map_holds f ks k n (i, omega (arith, within), is) of)

-- what stands in a list without doubles
once_found : (numbers taken : List ℕ) (n : ℕ) → numbers ≡ distinct taken → Contains numbers n → Contains taken n
once_found numbers taken n once among =
    contains_any taken n (sym (any_distinct n taken) ∙ ap (list_any (λ k. k == n)) (sym once) ∙ any_contains numbers n among)

once_holds : (numbers taken : List ℕ) (n : ℕ) → numbers ≡ distinct taken → Contains taken n → Contains numbers n
once_holds numbers taken n once among =
    contains_any numbers n (ap (list_any (λ k. k == n)) once ∙ any_distinct n taken ∙ any_contains taken n among)

-- numbers above a class, of which so many have given their parents
pub record AreReached (parents : ℕ → List ℕ) (class next : ℕ) (numbers : List ℕ) (marks : List Bool) : Type 0 where
  pub distinct : AreDistinct (parents class ++ flat_map parents (take next numbers)) numbers marks
  pub sound : (n : ℕ) → Contains numbers n → IsAbove parents class n

pub reached_none : (parents : ℕ → List ℕ) (class : ℕ) (numbers : List ℕ) (marks : List Bool) → AreDistinct (parents class) numbers marks → AreReached parents class 0 numbers marks
reached_none parents class numbers marks are = record {
  distinct = subst (λ (taken : List ℕ). AreDistinct taken numbers marks) (sym (append-nil (parents class))) are;
  sound = λ n among. Direct class n (once_found numbers (parents class) n are.once among);
}

-- the parents of one number more
pub reached_more : (parents : ℕ → List ℕ) (class next number : ℕ) (numbers numbers' : List ℕ) (marks marks' : List Bool) → next < length numbers → number ≡ get_or numbers next 0 → AreReached parents class next numbers marks → AreDistinct (parents class ++ flat_map parents (take next numbers) ++ parents number) numbers' marks' → AreReached parents class (next + 1) numbers' marks'
reached_more parents class next number numbers numbers' marks marks' within is are new =
    let before = parents class ++ flat_map parents (take next numbers) in
    let later = distinct_later before (parents number) in
    let longer : numbers' ≡ numbers ++ later.0 = new.once ∙ later.1 ∙ ap (λ (list : List ℕ). list ++ later.0) (sym are.distinct.once) in
    let front : take (next + 1) numbers' ≡ take next numbers ++ number ∷ [] =
    ap (take (next + 1)) longer ∙ take-append-le (next + 1) numbers later.0 (omega arith) ∙ take_more numbers next 0 within ∙ ap (λ n. take next numbers ++ n ∷ []) (sym is) in
    let here : Contains numbers number = subst (Contains numbers) (sym is) (Contains-get_or numbers next 0 within) in
    record {
      distinct = subst (λ (taken : List ℕ). AreDistinct taken numbers' marks') (flat_map_more parents (parents class) (take next numbers) number ∙ ap (λ (list : List ℕ). parents class ++ flat_map parents list) (sym front)) new;
      sound = λ n among. elim (Contains-append_cases before (parents number) n (once_found numbers' (before ++ parents number) n new.once among)) [
        | inl first ↦ are.sound n (once_holds numbers before n are.distinct.once first)
        | inr last ↦ above_next parents class number n (are.sound number here) last
      ];
    }

pub reached_longer : (parents : ℕ → List ℕ) (class next number : ℕ) (numbers numbers' : List ℕ) (marks marks' : List Bool) → AreReached parents class next numbers marks → AreDistinct (parents class ++ flat_map parents (take next numbers) ++ parents number) numbers' marks' → length numbers ≤ length numbers'
reached_longer parents class next number numbers numbers' marks marks' are new =
    let later = distinct_later (parents class ++ flat_map parents (take next numbers)) (parents number) in
    let longer : numbers' ≡ numbers ++ later.0 = new.once ∙ later.1 ∙ ap (λ (list : List ℕ). list ++ later.0) (sym are.distinct.once) in
    omega (arith, ap length longer, length-append numbers later.0)

pub reached_below : (parents : ℕ → List ℕ) (class next count place : ℕ) (numbers : List ℕ) (marks : List Bool) → ((class parent : ℕ) → Contains (parents class) parent → parent < count) → AreReached parents class next numbers marks → place < length numbers → get_or numbers place 0 < count
reached_below parents class next count place numbers marks below are within =
    above_below parents count below class (get_or numbers place 0) (are.sound (get_or numbers place 0) (Contains-get_or numbers place 0 within))

-- no more numbers than there are
pub reached_few : (parents : ℕ → List ℕ) (class next count : ℕ) (numbers : List ℕ) (marks : List Bool) → ((class parent : ℕ) → Contains (parents class) parent → parent < count) → AreReached parents class next numbers marks → length numbers ≤ count
reached_few parents class next count numbers marks below are =
    length-le_from_distinct_below numbers count
    (subst (IsDistinct eqb) (sym are.distinct.once) (distinct_is (parents class ++ flat_map parents (take next numbers))))
    (λ q is. let found = any_found (eqb q) numbers is in subst (λ n. n < count) (sym (eqb-true q found.0 found.2)) (above_below parents count below class found.0 (are.sound found.0 found.1)))

-- all of them
module _ (parents : ℕ → List ℕ) (class : ℕ) (numbers : List ℕ) (once : numbers ≡ distinct (parents class ++ flat_map parents numbers)) where
  first_held : (other : ℕ) → Contains (parents class) other → Contains numbers other
  first_held other among = once_holds numbers (parents class ++ flat_map parents numbers) other once (Contains-append_left (parents class) (flat_map parents numbers) other among)

  next_held : (k other : ℕ) → Contains numbers k → Contains (parents k) other → Contains numbers other
  next_held k other here among =
      once_holds numbers (parents class ++ flat_map parents numbers) other once (Contains-append_right (parents class) (flat_map parents numbers) other (flat_map_holds parents numbers k other here among))

above_held : (parents : ℕ → List ℕ) (class : ℕ) (numbers : List ℕ) → numbers ≡ distinct (parents class ++ flat_map parents numbers) → (k other : ℕ) → Contains numbers k → IsAbove parents k other → Contains numbers other
above_held parents class numbers once k other here (Direct from to among) = next_held parents class numbers once k other here among
above_held parents class numbers once k other here (Through from parent to among rest) =
    above_held parents class numbers once parent other (next_held parents class numbers once k parent here among) rest

all_held : (parents : ℕ → List ℕ) (class : ℕ) (numbers : List ℕ) → numbers ≡ distinct (parents class ++ flat_map parents numbers) → (other : ℕ) → IsAbove parents class other → Contains numbers other
all_held parents class numbers once other (Direct from to among) = first_held parents class numbers once other among
all_held parents class numbers once other (Through from parent to among rest) = above_held parents class numbers once parent other (first_held parents class numbers once parent among) rest

pub reached_all : (parents : ℕ → List ℕ) (class next : ℕ) (numbers : List ℕ) (marks : List Bool) → length numbers ≤ next → AreReached parents class next numbers marks → ListsAbove parents class numbers
reached_all parents class next numbers marks past are other =
    let once : numbers ≡ distinct (parents class ++ flat_map parents numbers) = are.distinct.once ∙ ap (λ (list : List ℕ). distinct (parents class ++ flat_map parents list)) (take_all next numbers past) in
    (are.sound other, all_held parents class numbers once other)

-- what names another is there
named_within : (lists : List (List ℕ)) (class parent : ℕ) → Contains (list_at lists class) parent → class < length lists
named_within lists class parent among = elim (cases_lt class (length lists)) [
  | inl within ↦ within
  | inr past ↦ absurd (omega (arith, (subst (λ (list : List ℕ). Contains list parent) (get_or_past lists class [] past) among).1))
]

above_within : (lists : List (List ℕ)) (class other : ℕ) → IsAbove (list_at lists) class other → class < length lists
above_within lists class other (Direct from to among) = named_within lists class other among
above_within lists class other (Through from parent to among rest) = named_within lists class parent among

module _ (lists above : List (List ℕ)) (as_many : length above ≡ length lists) (are : (class : ℕ) → class < length lists → ListsAbove (list_at lists) class (list_at above class)) where
  pub lists_below : ((class number : ℕ) → Contains (list_at lists class) number → number < length lists) → (class number : ℕ) → Contains (list_at above class) number → number < length above
  lists_below below class number among =
      let within = named_within above class number among in
      omega (arith, as_many, above_below (list_at lists) (length lists) below class number ((are class (omega (arith, as_many, within)) number).0 among))

  -- rows that mark these lists
  pub marks_above : (rows : List (List Bool)) → MarkLists above rows → MarkAbove (list_at lists) rows
  marks_above rows marks class other = (
    λ is.
        let among = contains_any (list_at above class) other (sym (marks class other) ∙ is) in
        let within = named_within above class other among in
        (are class (omega (arith, as_many, within)) other).0 among,
    λ is. marks class other ∙ any_contains (list_at above class) other ((are class (above_within lists class other is) other).1 is),
  )

-- a row more at the end
pub row_more : {X : Type 0} (P : ℕ → List X → Type 0) (rows : List (List X)) (row : List X) (i : ℕ) → length rows ≡ i → ((class : ℕ) → class < i → P class (get_or rows class [])) → P i row → (class : ℕ) → class < i + 1 → P class (get_or (rows ++ row ∷ []) class [])
row_more P rows row i as_many before last class less = elim (cases_eq class i) [
  | inl same ↦ subst (λ n. P n (get_or (rows ++ row ∷ []) n [])) (sym same) (subst (P i) (sym (get_or_push rows row [] i as_many)) last)
  | inr apart ↦ subst (P class) (sym (get_or_append_left rows (row ∷ []) [] class (omega arith))) (before class (omega arith))
]
