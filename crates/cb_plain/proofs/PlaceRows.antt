-- Which item stands at a place, item by item.
use Rattle.std.proofs.Common.{◌≡◌, ◌∙◌, ap, refl, sym, Bool, true, false, ℕ, zero, suc, List, [], ◌∷◌, ◌++◌, None, Some, cond, get_or, length, map, nat_lt, take, ◌+◌, ◌<◌, ◌≤◌, ◌==◌, arith}
use Rattle.std.specs.List.{position, position_or_len}
use Rattle.std.proofs.lemmas.Bool.{eqb-false, eqb-true, le-ltb, lt-ltb, ltb-false}
use Rattle.std.proofs.lemmas.List.{length-append, length-take, take_more}
use Rattle.std.proofs.lemmas.List.Folds.{position_or_len_push}
use Rattle.std.proofs.lemmas.List.Sums.{prefix_len-le-length}
use Rattle.cb_plain.specs.PlaceTable.{answered, index_at}
use Rattle.cb_plain.specs.InnerPlaces.{entered, index_in, known}

-- the first place that passes, where one item more is tested
place_more : (place count : ℕ) (here : Bool) → place ≤ count
    → cond (nat_lt (cond (place == count) (count + cond here 0 1) place) (count + 1)) (Some (cond (place == count) (count + cond here 0 1) place)) None
    ≡ entered (cond (nat_lt place count) (Some place) None) here count
place_more place count here most = go (place == count) (nat_lt place count) refl refl here where
  go : (last low : Bool) → (place == count) ≡ last → nat_lt place count ≡ low → (here : Bool)
      → cond (nat_lt (cond last (count + cond here 0 1) place) (count + 1)) (Some (cond last (count + cond here 0 1) place)) None
      ≡ entered (cond low (Some place) None) here count
  go true true is less here = absurd (let same : place ≡ count = eqb-true place count is in let not : nat_lt place count ≡ false = le-ltb place count (omega (arith, same)) in cc)
  go true false is less true =
      let same : count + 0 ≡ count = omega arith in
      ap (λ index. cond (nat_lt index (count + 1)) (Some index) None) same ∙ ap (λ test. cond test (Some count) None) (lt-ltb count (count + 1) (omega arith))
  go true false is less false = ap (λ test. cond test (Some (count + 1)) None) (le-ltb (count + 1) (count + 1) (omega arith))
  go false true is less here = ap (λ test. cond test (Some place) None) (lt-ltb place (count + 1) (omega (arith, most)))
  go false false is less here = absurd (eqb-false place count is (let high : count ≤ place = ltb-false place count less in omega (arith, most, high)))

pub index_more : {Item : Type 0} (items : List (ℕ × Item)) (index place : ℕ) (item : ℕ × Item) → index < length items → item ≡ get_or items index item
    → index_at (take (index + 1) items) place ≡ entered (index_at (take index items) place) (item.0 == place) index
index_more {Item} items index place item short is =
    let test : ℕ × Item → Bool = λ item. item.0 == place in
    let front = take index items in
    let count : length front ≡ index = omega (arith, length-take index items, short) in
    let last = position_or_len_push test front item in
    let more : length (front ++ item ∷ []) ≡ length front + 1 = omega (arith, length-append front (item ∷ [])) in
    ap (position test) (take_more items index item short ∙ ap (λ item. front ++ item ∷ []) (sym is))
    ∙ (λ i. cond (nat_lt (last i) (more i)) (Some (last i)) None)
    ∙ place_more (position_or_len test front) (length front) (test item) (prefix_len-le-length _ front)
    ∙ ap (entered (index_at front place) (item.0 == place)) count

-- what a row has is what a table of it answers
pub answers_row : (row : List ℕ) (place : ℕ) → answered (map known row) place ≡ index_in row place
answers_row [] place = refl
answers_row (number ∷ row) zero = refl
answers_row (number ∷ row) (suc place) = answers_row row place
