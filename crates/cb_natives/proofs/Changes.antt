-- Objects with other contents in one.
use Rattle.std.proofs.Common.{◌≡◌, ◌∙◌, ap, arith, refl, subst, sym, ℕ, zero, suc, ◌<◌, ◌≤◌, Bool, true, false, List, [], ◌∷◌, Option, Some, None, IsTrue, length, nat_eq, slice_get, slice_set}
use Rattle.std.proofs.lemmas.Bool.{false≢true}
use Rattle.std.proofs.lemmas.Bool.Decides.{nat_tests}
use Rattle.cb_heap.proofs.Laws.{residents_changed, held_alike}
use Rattle.cb_heap.specs.Kept.{content_at, contents_at, is_held, is_kept, with_content}
use Rattle.cb_plain.specs.State.{Content, Object}
use Rattle.cb_plain.specs.Updates.{with_contents_in}
use Rattle.cb_natives.proofs.Overwriting.{over, over_before, over_set}

same_at : (objects : List (Option Object)) (place : ℕ) → with_contents_in objects (suc place) (contents_at objects (suc place)) ≡ objects
same_at [] place = refl
same_at (None ∷ objects) zero = refl
same_at (Some object ∷ objects) zero = refl
same_at (entry ∷ objects) (suc place) = ap (λ (rest : List (Option Object)). entry ∷ rest) (same_at objects place)

pub with_same : (objects : List (Option Object)) (serial : ℕ) → with_contents_in objects serial (contents_at objects serial) ≡ objects
with_same objects zero = refl
with_same objects (suc place) = same_at objects place

twice_at : (objects : List (Option Object)) (place : ℕ) (one other : List Content)
    → with_contents_in (with_contents_in objects (suc place) one) (suc place) other ≡ with_contents_in objects (suc place) other
twice_at [] place one other = refl
twice_at (None ∷ objects) zero one other = refl
twice_at (Some object ∷ objects) zero one other = refl
twice_at (entry ∷ objects) (suc place) one other = ap (λ (rest : List (Option Object)). entry ∷ rest) (twice_at objects place one other)

pub with_twice : (objects : List (Option Object)) (serial : ℕ) (one other : List Content)
    → with_contents_in (with_contents_in objects serial one) serial other ≡ with_contents_in objects serial other
with_twice objects zero one other = refl
with_twice objects (suc place) one other = twice_at objects place one other

contents_there : (objects : List (Option Object)) (place : ℕ) (contents : List Content) → IsTrue (is_kept objects (suc place))
    → contents_at (with_contents_in objects (suc place) contents) (suc place) ≡ contents
contents_there [] place contents there = absurd (false≢true there)
contents_there (None ∷ objects) zero contents there = absurd (false≢true there)
contents_there (Some object ∷ objects) zero contents there = refl
contents_there (entry ∷ objects) (suc place) contents there = contents_there objects place contents there

pub contents_with : (objects : List (Option Object)) (serial : ℕ) (contents : List Content) → IsTrue (is_kept objects serial)
    → contents_at (with_contents_in objects serial contents) serial ≡ contents
contents_with objects zero contents there = absurd (false≢true there)
contents_with objects (suc place) contents there = contents_there objects place contents there

other_at : (objects : List (Option Object)) (place other : ℕ) (contents : List Content) → (place ≡ other → ⊥)
    → contents_at (with_contents_in objects (suc place) contents) (suc other) ≡ contents_at objects (suc other)
other_at [] place other contents differ = refl
other_at (entry ∷ objects) zero zero contents differ = absurd (differ refl)
other_at (entry ∷ objects) zero (suc other) contents differ = refl
other_at (entry ∷ objects) (suc place) zero contents differ = refl
other_at (entry ∷ objects) (suc place) (suc other) contents differ = other_at objects place other contents (λ same. differ (ap suc same))

pub contents_other : (objects : List (Option Object)) (serial other : ℕ) (contents : List Content) → (serial ≡ other → ⊥)
    → contents_at (with_contents_in objects serial contents) other ≡ contents_at objects other
contents_other objects zero other contents differ = refl
contents_other objects (suc place) zero contents differ = refl
contents_other objects (suc place) (suc other) contents differ = other_at objects place other contents (λ same. differ (ap suc same))

pub held_changed : (objects : List (Option Object)) (serial other : ℕ) (contents : List Content) → is_held (with_contents_in objects serial contents) other ≡ is_held objects other
held_changed objects serial other contents = held_alike (with_contents_in objects serial contents) objects other (residents_changed objects serial contents)

pub kept_changed : (objects : List (Option Object)) (serial other : ℕ) (contents : List Content) → is_kept (with_contents_in objects serial contents) other ≡ is_kept objects other
kept_changed objects serial zero contents = refl
kept_changed objects serial (suc place) contents = held_changed objects serial (suc place) contents

-- either two numbers are the same, or they differ
pub same_or : {C : Type 0} (one other : ℕ) → (one ≡ other → C) → ((one ≡ other → ⊥) → C) → C
same_or {C} one other same differ = go (nat_eq one other) refl where
  go : (is : Bool) → nat_eq one other ≡ is → C
  go true is = same (grind (arith, nat_tests, is))
  go false is = differ (λ (both : one ≡ other). grind (arith, nat_tests, is, both))

-- an array whose words are written from a place on: those before are as they were, as are the words of each other object
module _ (objects : List (Option Object)) (to : ℕ) (there : IsTrue (is_kept objects to)) (from : ℕ) (new : List Content) (fits : from ≤ length (contents_at objects to)) where
  abbrev written : List (Option Object)
  written = with_contents_in objects to (over (contents_at objects to) from new)

  pub word_before : (place : ℕ) → place < from → content_at written to place ≡ content_at objects to place
  word_before place low =
      ap (λ contents. slice_get contents place) (contents_with objects to (over (contents_at objects to) from new) there)
      ∙ over_before (contents_at objects to) from new place low fits

  pub word_same : (array place : ℕ) → (array ≡ to → place < from) → content_at written array place ≡ content_at objects array place
  word_same array place low =
      same_or to array
      (λ same. subst (λ (array : ℕ). content_at written array place ≡ content_at objects array place) same (word_before place (low (sym same))))
      (λ differ. ap (λ contents. slice_get contents place) (contents_other objects to array (over (contents_at objects to) from new) differ))

-- one word more is put before those that are there
pub put_before : (objects : List (Option Object)) (to : ℕ) (from : ℕ) (one : Content) (new : List Content) → IsTrue (is_kept objects to) → from < length (contents_at objects to)
    → with_content (with_contents_in objects to (over (contents_at objects to) (suc from) new)) to from one ≡ with_contents_in objects to (over (contents_at objects to) from (one ∷ new))
put_before objects to from one new there low =
    let contents = contents_at objects to in
    with_twice objects to (over contents (suc from) new) (slice_set (contents_at (with_contents_in objects to (over contents (suc from) new)) to) from one)
    ∙ ap (λ held. with_contents_in objects to (slice_set held from one)) (contents_with objects to (over contents (suc from) new) there)
    ∙ ap (with_contents_in objects to) (over_set contents from one new low)
