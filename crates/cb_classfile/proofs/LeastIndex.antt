-- The least index of a text.
use Rattle.std.proofs.Common.{◌≡◌, ◌↔◌, ◌⊎◌, ℕ, zero, suc, ◌+◌, ◌<◌, ◌≤◌, Bool, true, false, List, [], ◌∷◌, length, drop, get_or, Option, Some, None, refl, sym, ◌∙◌, ap, arith, inl, inr, if◌then◌else◌}
use Rattle.std.specs.Prelude.{slice_get, option_and_then}
use Rattle.std.proofs.lemmas.Bool.{false≢true}
use Rattle.std.proofs.lemmas.Option.{slice_get_cases}
use Rattle.std.proofs.lemmas.Slice.Eq.{bytes_eq-Decides}
use Rattle.cb_text.specs.declared.constant.Constant.{Constant}
use Rattle.cb_text.specs.Naming.{units_of}
use Rattle.cb_classfile.specs.Attributes.{is_text, index_from, least_index}
use Rattle.cb_classfile.specs.Pool.{text_at}

-- a text is a name exactly where it is its units
pub text_is : (name : List ℕ) (text : Option (List ℕ)) → is_text name text ≡ true → text ≡ Some name
text_is name None is = absurd (false≢true is)
text_is name (Some text) is = ap Some ((bytes_eq-Decides text name).0 is)

pub is_the_text : (name : List ℕ) (text : Option (List ℕ)) → text ≡ Some name → is_text name text ≡ true
is_the_text name text same = ap (is_text name) same ∙ (bytes_eq-Decides name name).1 refl

-- the text at a place, counted from 0
text_in : List Constant → ℕ → Option (List ℕ)
text_in pool place = option_and_then units_of (slice_get pool place)

-- the index that is found from an index on: a text that stands at a place stands there, and it is no greater
record IsLeast (from : ℕ) (name : List ℕ) (pool : List Constant) (place : ℕ) : Type 0 where
  found : ℕ
  is : index_from from name pool ≡ from + found
  stands : text_in pool found ≡ Some name
  least : found ≤ place

least_from : (from : ℕ) (name : List ℕ) (pool : List Constant) (place : ℕ) → text_in pool place ≡ Some name → IsLeast from name pool place
unfolding text_in
least_from from name [] place stands = absurd cc
least_from from name (constant ∷ pool) place stands = go place (is_text name (units_of constant)) refl stands (λ place stands. least_from (suc from) name pool place stands) where
  go : (place : ℕ) (here : Bool) → is_text name (units_of constant) ≡ here → text_in (constant ∷ pool) place ≡ Some name → ((place : ℕ) → text_in pool place ≡ Some name → IsLeast (suc from) name pool place) → IsLeast from name (constant ∷ pool) place
  go place true here stands next = record { found = 0; is = rw here (omega arith); stands = text_is name (units_of constant) here; least = omega arith }
  go zero false here stands next = absurd (false≢true (sym here ∙ is_the_text name (units_of constant) stands))
  go (suc place) false here stands next =
      let more = next place stands in
      record { found = suc more.found; is = rw here (more.is ∙ omega arith); stands = more.stands; least = omega (arith, more.least) }

-- where a text stands at an index, it stands at the least one, which is no greater
pub least_stands : (pool : List Constant) (name : List ℕ) (index : ℕ) → text_at pool index ≡ Some name → (text_at pool (least_index pool name) ≡ Some name) × (least_index pool name ≤ index)
unfolding text_in
least_stands pool name zero stands = absurd cc
least_stands pool name (suc place) stands =
    let here = least_from 1 name pool place stands in
    let at : least_index pool name ≡ suc here.found = here.is ∙ omega arith in
    (ap (text_at pool) at ∙ here.stands, omega (arith, here.is, here.least))

-- it is no more than the greatest exactly where the text stands there
record StandsFrom (from : ℕ) (name : List ℕ) (pool : List Constant) : Type 0 where
  place : ℕ
  is : index_from from name pool ≡ from + place
  stands : text_in pool place ≡ Some name

stands_from : (from : ℕ) (name : List ℕ) (pool : List Constant) → index_from from name pool < from + length pool → StandsFrom from name pool
unfolding text_in
stands_from from name [] below = absurd (omega (arith, below))
stands_from from name (constant ∷ pool) below = go (is_text name (units_of constant)) refl below (λ below. stands_from (suc from) name pool below) where
  go : (here : Bool) → is_text name (units_of constant) ≡ here → (if here then from else index_from (suc from) name pool) < from + suc (length pool) → (index_from (suc from) name pool < suc from + length pool → StandsFrom (suc from) name pool) → StandsFrom from name (constant ∷ pool)
  go true here below next = record { place = 0; is = rw here (omega arith); stands = text_is name (units_of constant) here }
  go false here below next =
      let more = next (omega (arith, below)) in
      record { place = suc more.place; is = rw here (more.is ∙ omega arith); stands = more.stands }

least_is : (pool : List Constant) (name : List ℕ) → least_index pool name < length pool + 1 → text_at pool (least_index pool name) ≡ Some name
unfolding text_in
least_is pool name below =
    let here = stands_from 1 name pool (omega (arith, below)) in
    let at : least_index pool name ≡ suc here.place = here.is ∙ omega arith in
    ap (text_at pool) at ∙ here.stands

index_within : (pool : List Constant) (index : ℕ) (name : List ℕ) → text_at pool index ≡ Some name → index < length pool + 1
index_within pool zero name stands = absurd cc
index_within pool (suc place) name stands = go (slice_get_cases pool place).1 where
  go : ((constant : Constant) × (place < length pool) × (slice_get pool place ≡ Some constant) × (get_or pool place constant ≡ constant)) ⊎ ((length pool ≤ place) × (slice_get pool place ≡ None)) → suc place < length pool + 1
  go (inl here) = omega (arith, here.1)
  go (inr past) = absurd (let none : text_at pool (suc place) ≡ None = ap (option_and_then units_of) past.1 in cc)

pub least_within_exactly : (pool : List Constant) (name : List ℕ) → (least_index pool name < length pool + 1) ↔ (text_at pool (least_index pool name) ≡ Some name)
least_within_exactly pool name = (least_is pool name, index_within pool (least_index pool name) name)

-- the index from the place of a constant on is the place, or that from the next one on
pub index_next : (pool : List Constant) (name : List ℕ) (from place : ℕ) → place < length pool → index_from from name (drop place pool) ≡ (if is_text name (text_at pool (suc place)) then from else index_from (suc from) name (drop (suc place) pool))
index_next [] name from place within = absurd (omega (arith, within))
index_next (constant ∷ pool) name from zero within = refl
index_next (constant ∷ pool) name from (suc place) within = index_next pool name from place (omega (arith, within))
