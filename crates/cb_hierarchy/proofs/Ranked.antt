-- An order of classes by how many are above each.
use Rattle.std.proofs.Common.{◌≡◌, ℕ, zero, suc, ◌+◌, ◌-◌, ◌<◌, ◌≤◌, ◌≢◌, Bool, true, false, cond, List, [], ◌∷◌, ◌++◌, length, map, take, get_or, Some, refl, sym, ap, subst, ◌∙◌, inl, inr, arith, length-append, length-take}
use Rattle.std.specs.Prelude.{slice_get}
use Rattle.std.specs.List.{Contains}
use Rattle.std.proofs.lemmas.Bool.{cases_eq, cases_lt, false≢true, false_from_ne_true}
use Rattle.std.proofs.lemmas.List.{get_or-append_right, get_or-map, get_or-take, get_or_append_left, take-append-le}
use Rattle.std.proofs.lemmas.List.Elements.{Contains-append_cases, Contains-append_left, Contains-append_right, Contains-push, Contains-push_cases}
use Rattle.std.proofs.lemmas.List.Sums.{count_by-le-length, sum_by-cons}
use Rattle.std.proofs.lemmas.Option.{get_or_from_slice_get, slice_get-get_or, slice_get_within}
use Rattle.cb_hierarchy.specs.declared.class.Class.{Class}
use Rattle.cb_hierarchy.specs.Above.{Direct, IsAcyclic, Through}
use Rattle.cb_hierarchy.specs.Classes.{AreClasses, parents}
use Rattle.cb_hierarchy.specs.Inner.{IsParentsFirst, has}
use Rattle.cb_hierarchy.specs.InnerRows.{AreOfRank, AreSquare, MarkAbove, how_many, marked}
use Rattle.cb_hierarchy.proofs.Named.{names_another}

-- fewer marks
more_by : (x : Bool) (xs : List Bool) → how_many (x ∷ xs) ≡ cond x 1 0 + how_many xs
more_by x xs = sum_by-cons (λ mark. cond mark 1 0) x xs

as_many : (xs ys : List Bool) → ((n : ℕ) → has xs n ≡ true → has ys n ≡ true) → how_many xs ≤ how_many ys
as_many [] ys within = omega arith
as_many (true ∷ xs) [] within = absurd (false≢true (within 0 refl))
as_many (false ∷ xs) [] within = let rest = as_many xs [] (λ n is. within (suc n) is) in omega (arith, more_by false xs)
as_many (x ∷ xs) (y ∷ ys) within = let rest = as_many xs ys (λ n is. within (suc n) is) in go x y (within 0) rest where
  go : (x y : Bool) → (x ≡ true → y ≡ true) → how_many xs ≤ how_many ys → how_many (x ∷ xs) ≤ how_many (y ∷ ys)
  go true true same rest = omega (arith, more_by true xs, more_by true ys)
  go true false same rest = absurd (false≢true (same refl))
  go false true same rest = omega (arith, more_by false xs, more_by true ys)
  go false false same rest = omega (arith, more_by false xs, more_by false ys)

fewer : (xs ys : List Bool) (k : ℕ) → ((n : ℕ) → has xs n ≡ true → has ys n ≡ true) → has xs k ≡ false → has ys k ≡ true → how_many xs < how_many ys
fewer xs [] k within none some = absurd (false≢true some)
fewer [] (true ∷ ys) zero within none some = omega (arith, more_by true ys)
fewer [] (false ∷ ys) zero within none some = absurd (false≢true some)
fewer [] (y ∷ ys) (suc k) within none some = let rest = fewer [] ys k (λ n is. absurd (false≢true is)) refl some in omega (arith, more_by y ys)
fewer (true ∷ xs) (y ∷ ys) zero within none some = absurd (false≢true (sym none))
fewer (false ∷ xs) (false ∷ ys) zero within none some = absurd (false≢true some)
fewer (false ∷ xs) (true ∷ ys) zero within none some = let rest = as_many xs ys (λ n is. within (suc n) is) in omega (arith, more_by false xs, more_by true ys)
fewer (x ∷ xs) (y ∷ ys) (suc k) within none some = let rest = fewer xs ys k (λ n is. within (suc n) is) none some in go x y (within 0) rest where
  go : (x y : Bool) → (x ≡ true → y ≡ true) → how_many xs < how_many ys → how_many (x ∷ xs) < how_many (y ∷ ys)
  go true true same rest = omega (arith, more_by true xs, more_by true ys)
  go true false same rest = absurd (false≢true (same refl))
  go false true same rest = omega (arith, more_by false xs, more_by true ys)
  go false false same rest = omega (arith, more_by false xs, more_by false ys)

not_all : (xs : List Bool) (k : ℕ) → k < length xs → has xs k ≡ false → how_many xs < length xs
not_all [] k within none = absurd (omega (arith, within))
not_all (true ∷ xs) zero within none = absurd (false≢true (sym none))
not_all (false ∷ xs) zero within none = omega (arith, more_by false xs, count_by-le-length (λ mark. mark) xs)
not_all (true ∷ xs) (suc k) within none = let rest = not_all xs k (omega (arith, within)) none in omega (arith, more_by true xs)
not_all (false ∷ xs) (suc k) within none = let rest = not_all xs k (omega (arith, within)) none in omega (arith, more_by false xs)

module _ (classes : List Class) (are : AreClasses classes) (acyclic : IsAcyclic classes) (rows : List (List Bool)) (square : AreSquare (length classes) rows) (marks : MarkAbove (parents classes) rows) where
  rank_at : (class : ℕ) → class < length classes → get_or (map how_many rows) class 0 ≡ how_many (get_or rows class [])
  rank_at class within = get_or-map how_many rows class [] 0 (omega (arith, square.as_many))

  pub rising : (class parent : ℕ) → Contains (parents classes class) parent → get_or (map how_many rows) parent 0 < get_or (map how_many rows) class 0
  rising class parent among =
      let here = rank_at class (names_another classes class parent among) in
      let there = rank_at parent (are.below class parent among) in
      let less = fewer (get_or rows parent []) (get_or rows class []) parent
      (λ n is. (marks class n).1 (Through class parent n among ((marks parent n).0 is)))
      (false_from_ne_true (marked rows parent parent) (λ is. acyclic parent ((marks parent parent).0 is)))
      ((marks class parent).1 (Direct class parent among)) in
      omega (arith, here, there, less)

  pub low : (class : ℕ) → class < length classes → get_or (map how_many rows) class 0 < length classes
  low class within =
      let wide = square.wide class within in
      let less = not_all (get_or rows class []) class (omega (arith, wide)) (false_from_ne_true (marked rows class class) (λ is. acyclic class ((marks class class).0 is))) in
      omega (arith, rank_at class within, less, wide)

-- one class more of a rank, or not
pub rank_yes : (ranks : List ℕ) (rank k : ℕ) (more : List ℕ) → AreOfRank ranks rank k more → get_or ranks k 0 ≡ rank → AreOfRank ranks rank (k + 1) (more ++ k ∷ [])
rank_yes ranks rank k more of is = record {
  only = λ class among. elim (Contains-push_cases more k class among) [
    | inl before ↦ (omega (arith, (of.only class before).0), (of.only class before).1)
    | inr same ↦ (omega (arith, same), ap (λ n. get_or ranks n 0) (sym same) ∙ is)
  ];
  all = λ class less same. elim (cases_eq class k) [
    | inl here ↦ subst (λ n. Contains (more ++ k ∷ []) n) (sym here) (Contains-push more k)
    | inr apart ↦ Contains-append_left more (k ∷ []) class (of.all class (omega arith) same)
  ];
}

pub rank_no : (ranks : List ℕ) (rank k : ℕ) (more : List ℕ) → AreOfRank ranks rank k more → get_or ranks k 0 ≢ rank → AreOfRank ranks rank (k + 1) more
rank_no ranks rank k more of is = record {
  only = λ class among. (omega (arith, (of.only class among).0), (of.only class among).1);
  all = λ class less same. elim (cases_eq class k) [
    | inl here ↦ absurd (is (ap (λ n. get_or ranks n 0) (sym here) ∙ same))
    | inr apart ↦ of.all class (omega arith) same
  ];
}

-- the classes whose rank is below a bound, each behind its parents
pub record AreOrdered (classes : List Class) (ranks : List ℕ) (bound : ℕ) (order : List ℕ) : Type 0 where
  pub every : (class : ℕ) → class < length classes → get_or ranks class 0 < bound → Contains order class
  pub below : (class : ℕ) → Contains order class → class < length classes
  pub behind : (place class parent : ℕ) → slice_get order place ≡ Some class → Contains (parents classes class) parent → Contains (take place order) parent

pub ordered_none : (classes : List Class) (ranks : List ℕ) → AreOrdered classes ranks 0 []
ordered_none classes ranks = record {
  every = λ class within less. absurd (omega (arith, less));
  below = λ class among. absurd (omega (arith, among.1));
  behind = λ place class parent at among. absurd (omega (arith, slice_get_within [] place class at));
}

taken_later : (order more : List ℕ) (place parent : ℕ) → length order ≤ place → Contains order parent → Contains (take place (order ++ more)) parent
taken_later order more place parent past (q, within, is) = (
  q,
  omega (arith, length-take place (order ++ more), length-append order more),
  get_or-take place (order ++ more) q parent (omega arith) ∙ get_or_append_left order more parent q within ∙ is,
)

module _ (classes : List Class) (are : AreClasses classes) (ranks : List ℕ) (rising : (class parent : ℕ) → Contains (parents classes class) parent → get_or ranks parent 0 < get_or ranks class 0) where
  pub ordered_more : (rank : ℕ) (order more : List ℕ) → AreOrdered classes ranks rank order → AreOfRank ranks rank (length classes) more → AreOrdered classes ranks (rank + 1) (order ++ more)
  ordered_more rank order more done of = record {
    every = λ class within less. elim (cases_lt (get_or ranks class 0) rank) [
      | inl before ↦ Contains-append_left order more class (done.every class within before)
      | inr last ↦ Contains-append_right order more class (of.all class within (omega arith))
    ];
    below = λ class among. elim (Contains-append_cases order more class among) [
      | inl before ↦ done.below class before
      | inr last ↦ (of.only class last).0
    ];
    behind = λ place class parent at among. elim (cases_lt place (length order)) [
      | inl before ↦
          let here : slice_get order place ≡ Some class = slice_get-get_or order place class before ∙ ap Some (sym (get_or_append_left order more class place before) ∙ get_or_from_slice_get (order ++ more) place class class at) in
          subst (λ list. Contains list parent) (sym (take-append-le place order more (omega arith))) (done.behind place class parent here among)
      | inr past ↦
          let within : place < length (order ++ more) = slice_get_within (order ++ more) place class at in
          let last : Contains more class = (place - length order, omega (arith, length-append order more), sym (get_or-append_right order more (length order) place class refl past) ∙ get_or_from_slice_get (order ++ more) place class class at) in
          let less : get_or ranks parent 0 < rank = omega (arith, rising class parent among, (of.only class last).1) in
          taken_later order more place parent past (done.every parent (are.below class parent among) less)
    ];
  }

pub ordered_all : (classes : List Class) (ranks order : List ℕ) → ((class parent : ℕ) → Contains (parents classes class) parent → get_or ranks parent 0 < get_or ranks class 0) → ((class : ℕ) → class < length classes → get_or ranks class 0 < length classes)
    → AreOrdered classes ranks (length classes) order → IsParentsFirst classes order
ordered_all classes ranks order rising low done = record {
  every = λ class within. done.every class within (low class within);
  below = done.below;
  behind = done.behind;
  rank = λ class. get_or ranks class 0;
  rising = rising;
  low = low;
}
