-- Lists that are made one item after the other.
use Rattle.std.proofs.Common.{◌≡◌, ◌∙◌, ◌<◌, ◌≤◌, ◌+◌, ◌⊎◌, ap, inl, inr, arith, refl, sym, take, ℕ, List, [], ◌∷◌, ◌++◌, length, slice_get, Some, zero, suc}
use Rattle.std.proofs.lemmas.Bool.{cases_lt}
use Rattle.std.proofs.Math.Seq.{take-suc}
use Rattle.std.proofs.lemmas.List.{take_all}
use Rattle.std.proofs.lemmas.Option.{get_or_from_slice_get, none-some, slice_get_within}

pub front_so : {Item : Type 0} (items : List Item) (more : List Item) (place : ℕ) (item : Item) → slice_get items place ≡ Some item → slice_get (items ++ more) place ≡ Some item
front_so [] more place item is = absurd (none-some item is)
front_so (first ∷ items) more zero item is = is
front_so (first ∷ items) more (suc place) item is = front_so items more place item is

pub last_so : {Item : Type 0} (items : List Item) (item : Item) → slice_get (items ++ item ∷ []) (length items) ≡ Some item
last_so [] item = refl
last_so (first ∷ items) item = last_so items item

-- so many items are those of a table
pub record AreUpTo {Item : Type 0} (table : ℕ → Item) (count : ℕ) (items : List Item) : Type 0 where
  pub count_is : length items ≡ count
  pub each : (place : ℕ) → place < count → slice_get items place ≡ Some (table place)

pub none_yet : {Item : Type 0} (table : ℕ → Item) → AreUpTo table 0 []
none_yet table = record { count_is = refl; each = λ place low. absurd (omega (arith, low)) }

longer_by : {Item : Type 0} (items : List Item) (item : Item) → length (items ++ item ∷ []) ≡ length items + 1
longer_by [] item = refl
longer_by (first ∷ items) item = ap suc (longer_by items item) ∙ more (length items) where
  more : (count : ℕ) → suc (count + 1) ≡ suc count + 1
  more count = omega arith

pub one_more : {Item : Type 0} (table : ℕ → Item) (count : ℕ) (items : List Item) (item : Item) → AreUpTo table count items → item ≡ table count
    → AreUpTo table (count + 1) (items ++ item ∷ [])
one_more table count items item are is = record {
  count_is = longer_by items item ∙ ap (λ count. count + 1) are.count_is;
  each = λ place low. go place low (cases_lt place count);
} where
  go : (place : ℕ) → place < count + 1 → (place < count) ⊎ (count ≤ place) → slice_get (items ++ item ∷ []) place ≡ Some (table place)
  go place low (inl below) = front_so items (item ∷ []) place (table place) (are.each place below)
  go place low (inr above) =
      let at : place ≡ length items = omega (arith, low, above, are.count_is) in
      let same : count ≡ place = omega (arith, low, above) in
      ap (slice_get (items ++ item ∷ [])) at ∙ last_so items item ∙ ap Some (is ∙ ap table same)

-- items copied from a list, so many of them
pub copied_more : {Item : Type 0} (items copy : List Item) (count : ℕ) (item : Item) → copy ≡ take count items → slice_get items count ≡ Some item
    → copy ++ item ∷ [] ≡ take (count + 1) items
copied_more items copy count item is at =
    let low : count < length items = slice_get_within items count item at in
    let next : suc count ≡ count + 1 = omega arith in
    ap (λ copy. copy ++ item ∷ []) is ∙ ap (λ item. take count items ++ item ∷ []) (sym (get_or_from_slice_get items count item item at))
    ∙ sym (take-suc items count item low) ∙ ap (λ count. take count items) next

pub copied_all : {Item : Type 0} (items copy : List Item) (count : ℕ) → copy ≡ take count items → length items ≤ count → copy ≡ items
copied_all items copy count is end = is ∙ take_all count items end
