-- Lists that grow at the end.
use Rattle.std.proofs.Common.{◌≡◌, ℕ, zero, suc, ◌+◌, ◌≤◌, Bool, true, false, cond, List, [], ◌∷◌, ◌++◌, length, take, Some, refl, subst, ap, ◌∙◌, arith, length-append}
use Rattle.std.specs.Prelude.{slice_get}
use Rattle.std.specs.List.{flat_map, list_any}
use Rattle.std.proofs.lemmas.Grind.{flat_map-append}
use Rattle.std.proofs.lemmas.List.{append-nil, take-append-le, take_more}
use Rattle.std.proofs.lemmas.Option.{get_or_from_slice_get, slice_get_within}
use Rattle.cb_load.specs.Names.{Entry}
use Rattle.cb_load.specs.Closure.{covers}
use Rattle.cb_load.specs.Inner.{entered, entered_all}

-- what is so of each element, by its place and those before it, is so with one more
pub each_more : {Item : Type 0} (Is : ℕ → List Item → Item → Type 0) (items : List Item) (last : Item) → ((place : ℕ) (item : Item) → slice_get items place ≡ Some item → Is place (take place items) item) → Is (length items) items last
    → (place : ℕ) (item : Item) → slice_get (items ++ last ∷ []) place ≡ Some item → Is place (take place (items ++ last ∷ [])) item
each_more Is [] last each here zero item at =
    let same : last ≡ item = cc in
    subst (λ item. Is 0 [] item) same here
each_more Is [] last each here (suc place) item at = absurd (cc)
each_more Is (first ∷ items) last each here zero item at = each zero item at
each_more Is (first ∷ items) last each here (suc place) item at =
    each_more (λ place before item. Is (suc place) (first ∷ before) item) items last (λ place item at. each (suc place) item at) here place item at

pub take_next : {Item : Type 0} (items : List Item) (place : ℕ) (item : Item) → slice_get items place ≡ Some item → take (place + 1) items ≡ take place items ++ item ∷ []
take_next items place item at =
    take_more items place item (slice_get_within items place item at) ∙ ap (λ next. take place items ++ next ∷ []) (get_or_from_slice_get items place item item at)

-- what an element at the end gives
pub spoken : {Item Part : Type 0} (parts : Item → List Part) (items : List Item) (last : Item) → flat_map parts (items ++ last ∷ []) ≡ flat_map parts items ++ parts last
spoken parts items last = flat_map-append parts items (last ∷ []) ∙ ap (λ end. flat_map parts items ++ end) (append-nil (parts last))

pub silent : {Item Part : Type 0} (parts : Item → List Part) (items : List Item) (last : Item) → parts last ≡ [] → flat_map parts (items ++ last ∷ []) ≡ flat_map parts items
silent parts items last none = spoken parts items last ∙ ap (λ end. flat_map parts items ++ end) none ∙ append-nil (flat_map parts items)

-- entries that are entered come behind those that are there
entered_front : (entries : List Entry) (entry : Entry) (count : ℕ) → count ≤ length entries → (take count (entered entries entry) ≡ take count entries) × (length entries ≤ length (entered entries entry))
entered_front entries entry count short = go (list_any (λ before. covers before entry) entries) where
  go : (covered : Bool) → (take count (cond covered entries (entries ++ entry ∷ [])) ≡ take count entries) × (length entries ≤ length (cond covered entries (entries ++ entry ∷ [])))
  go true = (refl, omega arith)
  go false = (take-append-le count entries (entry ∷ []) short, omega (arith, length-append entries (entry ∷ [])))

pub entered_behind : (entries more : List Entry) (count : ℕ) → count ≤ length entries → take count (entered_all entries more) ≡ take count entries
entered_behind entries [] count short = refl
entered_behind entries (entry ∷ more) count short =
    let (front, long) = entered_front entries entry count short in
    let still : count ≤ length (entered entries entry) = omega arith in
    entered_behind (entered entries entry) more count still ∙ front
