-- The first item of a list, where the elements may have one each.
use Rattle.std.proofs.Common.{◌≡◌, ℕ, zero, suc, ◌+◌, ◌-◌, ◌<◌, List, [], ◌∷◌, ◌++◌, map, Option, Some, None, is_some, option_and_then, length, take, get_or, true, false, refl, sym, ◌∙◌, ap, arith}
use Rattle.std.proofs.lemmas.Option.{slice_get-get_or}
use Rattle.std.specs.List.{slice_get}
use Rattle.std.specs.Option.{option_or}
use Rattle.cb_text.specs.declared.constant.Constant.{Constant}
use Rattle.cb_text.specs.Pool.{constant_at}
use Rattle.cb_classfile.specs.declared.feature.Feature.{Feature}
use Rattle.cb_classfile.specs.Profile.{first_of}

-- the first item of two lists is that of the one, or else of the other
first_of_both : (front back : List (Option Feature)) → first_of (front ++ back) ≡ option_or (first_of front) (first_of back)
first_of_both [] back = refl
first_of_both (Some item ∷ front) back = refl
first_of_both (None ∷ front) back = first_of_both front back

pub first_before : (front back : List (Option Feature)) (item : Feature) → Some item ≡ first_of front → Some item ≡ first_of (front ++ back)
first_before front back item is = ap (λ found. option_or found (first_of back)) is ∙ sym (first_of_both front back)

pub first_behind : (front back : List (Option Feature)) (item : Option Feature) → None ≡ first_of front → item ≡ first_of back → item ≡ first_of (front ++ back)
first_behind front back item none is = is ∙ ap (λ found. option_or found (first_of back)) none ∙ sym (first_of_both front back)

-- the item at a place, before which there is none, is the first
is_first : {X : Type 0} (item_of : X → Option Feature) (items : List X) (place : ℕ) → first_of (map item_of (take place items)) ≡ None → true ≡ is_some (option_and_then item_of (slice_get items place)) → option_and_then item_of (slice_get items place) ≡ first_of (map item_of items)
is_first item_of [] place none is = cc
is_first item_of (first ∷ items) zero none is = go (item_of first) is where
  go : (item : Option Feature) → true ≡ is_some item → item ≡ first_of (item ∷ map item_of items)
  go None is = cc
  go (Some item) is = refl
is_first item_of (first ∷ items) (suc place) none is = go (item_of first) none (λ none. is_first item_of items place none is) where
  go : (item : Option Feature) → first_of (item ∷ map item_of (take place items)) ≡ None
      → (first_of (map item_of (take place items)) ≡ None → option_and_then item_of (slice_get items place) ≡ first_of (map item_of items))
      → option_and_then item_of (slice_get items place) ≡ first_of (item ∷ map item_of items)
  go None none behind = behind none
  go (Some item) none behind = cc

-- and where there is none at it either, there is none up to it
is_none : {X : Type 0} (item_of : X → Option Feature) (items : List X) (place : ℕ) → first_of (map item_of (take place items)) ≡ None → false ≡ is_some (option_and_then item_of (slice_get items place)) → first_of (map item_of (take (suc place) items)) ≡ None
is_none item_of [] place none is = refl
is_none item_of (first ∷ items) zero none is = go (item_of first) is where
  go : (item : Option Feature) → false ≡ is_some item → first_of (item ∷ []) ≡ None
  go None is = refl
  go (Some item) is = cc
is_none item_of (first ∷ items) (suc place) none is = go (item_of first) none (λ none. is_none item_of items place none is) where
  go : (item : Option Feature) → first_of (item ∷ map item_of (take place items)) ≡ None
      → (first_of (map item_of (take place items)) ≡ None → first_of (map item_of (take (suc place) items)) ≡ None) → first_of (item ∷ map item_of (take (suc place) items)) ≡ None
  go None none behind = behind none
  go (Some item) none behind = cc

-- the item of an element read at a place
item_at : {X : Type 0} (item_of : X → Option Feature) (items : List X) (place : ℕ) (other element : X) (item : Option Feature) → place < length items → element ≡ get_or items place other → item ≡ item_of element → item ≡ option_and_then item_of (slice_get items place)
item_at item_of items place other element item within at has =
    has ∙ ap item_of at ∙ sym (ap (option_and_then item_of) (slice_get-get_or items place other within))

pub first_here : {X : Type 0} (item_of : X → Option Feature) (items : List X) (place : ℕ) (other element : X) (item : Option Feature) → place < length items → first_of (map item_of (take place items)) ≡ None → element ≡ get_or items place other → item ≡ item_of element → true ≡ is_some item → item ≡ first_of (map item_of items)
first_here item_of items place other element item within none at has is =
    let same = item_at item_of items place other element item within at has in
    same ∙ is_first item_of items place none (is ∙ ap is_some same)

pub none_here : {X : Type 0} (item_of : X → Option Feature) (items : List X) (place : ℕ) (other element : X) (item : Option Feature) → place < length items → first_of (map item_of (take place items)) ≡ None → element ≡ get_or items place other → item ≡ item_of element → false ≡ is_some item → first_of (map item_of (take (place + 1) items)) ≡ None
none_here item_of items place other element item within none at has is =
    let next : place + 1 ≡ suc place = omega arith in
    rw next (is_none item_of items place none (is ∙ ap is_some (item_at item_of items place other element item within at has)))

-- the same of the constants of a pool, by their indices
pub first_at_index : (item_of : Constant → Option Feature) (pool : List Constant) (index : ℕ) (item : Option Feature) → first_of (map item_of (take (index - 1) pool)) ≡ None → item ≡ option_and_then item_of (constant_at pool index) → true ≡ is_some item → item ≡ first_of (map item_of pool)
first_at_index item_of pool zero item none has is = cc
first_at_index item_of pool (suc before) item none has is =
    let place : suc before - 1 ≡ before = omega arith in
    has ∙ is_first item_of pool before (rw place at none) (is ∙ ap is_some has)

pub none_at_index : (item_of : Constant → Option Feature) (pool : List Constant) (index : ℕ) (item : Option Feature) → first_of (map item_of (take (index - 1) pool)) ≡ None → item ≡ option_and_then item_of (constant_at pool index) → false ≡ is_some item → first_of (map item_of (take (index + 1 - 1) pool)) ≡ None
none_at_index item_of pool zero item none has is = none
none_at_index item_of pool (suc before) item none has is =
    let place : suc before - 1 ≡ before = omega arith in
    let more : suc before + 1 - 1 ≡ suc before = omega arith in
    rw more (is_none item_of pool before (rw place at none) (is ∙ ap is_some has))
