-- What is kept of a change is the change of what is kept.
use Rattle.std.proofs.Common.{◌≡◌, ◌∙◌, ap, sym, refl, arith, ℕ, Bool, true, false, List, [], ◌∷◌, ◌++◌, Option, Some, None, is_some, length, drop, slice_get, zero, suc, IsTrue}
use Rattle.std.proofs.lemmas.List.{map-append}
use Rattle.std.proofs.lemmas.Bool.{false≢true}
use Rattle.cb_plain.specs.State.{Content, Object}
use Rattle.cb_plain.specs.Updates.{object_in, with_contents_in}
use Rattle.cb_heap.specs.Kept.{is_held, keep, residents, with_content}

changes_residents : (objects : List (Option Object)) (place : ℕ) (contents : List Content) → residents (with_contents_in objects (suc place) contents) ≡ residents objects
changes_residents [] place contents = refl
changes_residents (None ∷ objects) zero contents = refl
changes_residents (Some object ∷ objects) zero contents = refl
changes_residents (entry ∷ objects) (suc place) contents = ap (λ rest. is_some entry ∷ rest) (changes_residents objects place contents)

pub residents_changed : (objects : List (Option Object)) (serial : ℕ) (contents : List Content) → residents (with_contents_in objects serial contents) ≡ residents objects
residents_changed objects zero contents = refl
residents_changed objects (suc place) contents = changes_residents objects place contents

pub residents_placed : (objects : List (Option Object)) (object : Object) → residents (objects ++ Some object ∷ []) ≡ residents objects ++ true ∷ []
residents_placed objects object = map-append is_some objects (Some object ∷ [])

keeps_changed : (kept : List Bool) (objects : List (Option Object)) (place word : ℕ) (content : Content) →
    keep kept (with_content objects (suc place) word content) ≡ with_content (keep kept objects) (suc place) word content
keeps_changed [] objects place word content = refl
keeps_changed (stays ∷ kept) [] place word content = refl
keeps_changed (true ∷ kept) (entry ∷ objects) zero word content = refl
keeps_changed (false ∷ kept) (entry ∷ objects) zero word content = refl
keeps_changed (true ∷ kept) (entry ∷ objects) (suc place) word content = ap (λ rest. entry ∷ rest) (keeps_changed kept objects place word content)
keeps_changed (false ∷ kept) (entry ∷ objects) (suc place) word content = ap (λ rest. None ∷ rest) (keeps_changed kept objects place word content)

pub keep_changed : (kept : List Bool) (objects : List (Option Object)) (serial word : ℕ) (content : Content) →
    keep kept (with_content objects serial word content) ≡ with_content (keep kept objects) serial word content
keep_changed kept objects zero word content = refl
keep_changed kept objects (suc place) word content = keeps_changed kept objects place word content

pub keep_placed : (kept : List Bool) (objects : List (Option Object)) (object : Object) → length kept ≡ length objects →
    keep (kept ++ true ∷ []) (objects ++ Some object ∷ []) ≡ keep kept objects ++ Some object ∷ []
keep_placed [] [] object same = refl
keep_placed [] (entry ∷ objects) object same = absurd (omega (arith, same))
keep_placed (stays ∷ kept) [] object same = absurd (omega (arith, same))
keep_placed (true ∷ kept) (entry ∷ objects) object same = ap (λ rest. entry ∷ rest) (keep_placed kept objects object (omega (arith, same)))
keep_placed (false ∷ kept) (entry ∷ objects) object same = ap (λ rest. None ∷ rest) (keep_placed kept objects object (omega (arith, same)))

-- what is kept of what is kept, where it was kept
pub keep_twice : (now before : List Bool) (objects : List (Option Object)) → (residents (keep now (keep before objects)) ≡ now) → length before ≡ length objects →
    keep now (keep before objects) ≡ keep now objects
keep_twice [] before objects is same = refl
keep_twice (stays ∷ now) [] [] is same = refl
keep_twice (stays ∷ now) [] (entry ∷ objects) is same = absurd (omega (arith, same))
keep_twice (stays ∷ now) (stayed ∷ before) [] is same = absurd (omega (arith, same))
keep_twice (false ∷ now) (true ∷ before) (entry ∷ objects) is same = ap (λ rest. None ∷ rest) (keep_twice now before objects (ap (drop 1) is) (omega (arith, same)))
keep_twice (false ∷ now) (false ∷ before) (entry ∷ objects) is same = ap (λ rest. None ∷ rest) (keep_twice now before objects (ap (drop 1) is) (omega (arith, same)))
keep_twice (true ∷ now) (true ∷ before) (entry ∷ objects) is same = ap (λ rest. entry ∷ rest) (keep_twice now before objects (ap (drop 1) is) (omega (arith, same)))
keep_twice (true ∷ now) (false ∷ before) (entry ∷ objects) is same = absurd (false≢true (ap first_of_list is)) where
  first_of_list : List Bool → Bool
  first_of_list [] = false
  first_of_list (first ∷ rest) = first

-- an object that is kept is as it was
same_in : (residents : List Bool) (objects : List (Option Object)) (place : ℕ) → IsTrue (is_held (keep residents objects) (suc place))
    → object_in (keep residents objects) (suc place) ≡ object_in objects (suc place)
same_in [] objects place there = absurd (false≢true there)
same_in (stays ∷ residents) [] place there = refl
same_in (true ∷ residents) (entry ∷ objects) zero there = refl
same_in (false ∷ residents) (entry ∷ objects) zero there = absurd (false≢true there)
same_in (true ∷ residents) (entry ∷ objects) (suc place) there = same_in residents objects place there
same_in (false ∷ residents) (entry ∷ objects) (suc place) there = same_in residents objects place there

pub same_object : (residents : List Bool) (objects : List (Option Object)) (serial : ℕ) → IsTrue (is_held (keep residents objects) serial)
    → object_in (keep residents objects) serial ≡ object_in objects serial
same_object residents objects zero held = refl
same_object residents objects (suc place) held = same_in residents objects place held

-- whether a reference is held is told by which objects are kept
abbrev held_by : List Bool → ℕ → Bool
held_by kept zero = true
held_by kept (suc place) = is_true (slice_get kept place) where
  is_true : Option Bool → Bool
  is_true None = false
  is_true (Some is) = is

held_places : (objects : List (Option Object)) (place : ℕ) → is_held objects (suc place) ≡ held_by (residents objects) (suc place)
held_places [] place = refl
held_places (None ∷ objects) zero = refl
held_places (Some object ∷ objects) zero = refl
held_places (entry ∷ objects) (suc place) = held_places objects place

held_by_residents : (objects : List (Option Object)) (serial : ℕ) → is_held objects serial ≡ held_by (residents objects) serial
held_by_residents objects zero = refl
held_by_residents objects (suc place) = held_places objects place

pub held_alike : (one other : List (Option Object)) (serial : ℕ) → residents one ≡ residents other → is_held one serial ≡ is_held other serial
held_alike one other serial same = held_by_residents one serial ∙ ap (λ kept. held_by kept serial) same ∙ sym (held_by_residents other serial)

held_further_at : (objects : List (Option Object)) (object : Object) (place : ℕ) → IsTrue (is_held objects (suc place)) → IsTrue (is_held (objects ++ Some object ∷ []) (suc place))
held_further_at [] object place is = absurd (false≢true is)
held_further_at (entry ∷ objects) object zero is = is
held_further_at (entry ∷ objects) object (suc place) is = held_further_at objects object place is

pub held_further : (objects : List (Option Object)) (object : Object) (serial : ℕ) → IsTrue (is_held objects serial) → IsTrue (is_held (objects ++ Some object ∷ []) serial)
held_further objects object zero is = is
held_further objects object (suc place) is = held_further_at objects object place is
