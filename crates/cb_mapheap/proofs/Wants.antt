-- Wants that are gone through from the front, and what is left of one.
use Rattle.std.proofs.Common.{◌≡◌, ◌∙◌, ap, refl, arith, ℕ, zero, suc, ◌+◌, ◌-◌, ◌<◌, ◌≤◌, ◌==◌, ◌||◌, Bool, true, false, List, [], ◌∷◌, ◌++◌, Some, take, slice_get}
use Rattle.std.proofs.lemmas.Bool.Decides.{nat_tests}
use Rattle.std.proofs.lemmas.List.{take_more}
use Rattle.std.proofs.lemmas.List.Folds.{list_any-append}
use Rattle.std.proofs.lemmas.List.Sums.{sum_by-append, sum_by-cons}
use Rattle.std.proofs.lemmas.Option.{get_or_from_slice_get, none-some, same_Some, slice_get_within}
use Rattle.cb_plain.specs.declared.want.Want.{Want}
use Rattle.cb_plain.specs.Requests.{spent, words_at}
use Rattle.cb_heap.specs.Grants.{words_granted}
use Rattle.cb_mapheap.specs.Room.{has_reached, one_has_reached}

-- the first so many, and one more
pub taken_more : {X : Type 0} (items : List X) (i : ℕ) (item : X) → slice_get items i ≡ Some item → take (i + 1) items ≡ take i items ++ item ∷ []
taken_more items i item is =
    take_more items i item (slice_get_within items i item is) ∙ ap (λ last. take i items ++ last ∷ []) (get_or_from_slice_get items i item item is)

pub granted_more : (wants : List Want) (i : ℕ) (want : Want) → slice_get wants i ≡ Some want → words_granted (take (i + 1) wants) ≡ words_granted (take i wants) + want.words
granted_more wants i want is =
    ap words_granted (taken_more wants i want is) ∙ sum_by-append (λ want. want.words) (take i wants) (want ∷ []) ∙ ap (λ last. words_granted (take i wants) + last) (omega arith)

-- whether one of them has reached the limit of what is counted
pub none_more : (most : ℕ) (wants : List Want) (i : ℕ) (want : Want) → slice_get wants i ≡ Some want → one_has_reached most (take i wants) ≡ false → has_reached most want ≡ false → one_has_reached most (take (i + 1) wants) ≡ false
none_more most wants i want is none fine =
    ap (one_has_reached most) (taken_more wants i want is) ∙ list_any-append (has_reached most) (take i wants) (want ∷ []) ∙ rw (none, fine) refl

pub is_below : (most : ℕ) (want : Want) → want.words < most → has_reached most want ≡ false
is_below most want below = grind (arith, nat_tests)

or_true : (one : Bool) → (one || true) ≡ true
or_true true = refl
or_true false = refl

pub found_one : (most : ℕ) (wants : List Want) (i : ℕ) (want : Want) → slice_get wants i ≡ Some want → has_reached most want ≡ true → one_has_reached most wants ≡ true
found_one most [] i want is much = absurd (none-some want is)
found_one most (first ∷ wants) zero want is much = rw (ap (has_reached most) (same_Some first want is) ∙ much) refl
found_one most (first ∷ wants) (suc i) want is much = rw (found_one most wants i want is much) (or_true (has_reached most first))

-- all that is granted is that much less
sum_first : (first : Bool) (want : Want) (wants : List Want) (site words : ℕ) → (want.site == site) ≡ first →
    (words ≤ words_at wants site → words_granted (spent wants site words) + words ≡ words_granted wants) → words ≤ words_at (want ∷ wants) site →
    words_granted (spent (want ∷ wants) site words) + words ≡ words_granted (want ∷ wants)
sum_first true want wants site words is behind enough =
    let here : words ≤ want.words = rw is at enough in
    let more = sum_by-cons (λ want. want.words) want wants in
    let less = sum_by-cons (λ want. want.words) (record { site = want.site; words = want.words - words }) wants in
    rw is (omega (arith, here, more, less))
sum_first false want wants site words is behind enough =
    let there : words ≤ words_at wants site = rw is at enough in
    let more = sum_by-cons (λ want. want.words) want wants in
    let less = sum_by-cons (λ want. want.words) want (spent wants site words) in
    rw is (omega (arith, behind there, more, less))

pub granted_spent : (wants : List Want) (site words : ℕ) → words ≤ words_at wants site → words_granted (spent wants site words) + words ≡ words_granted wants
granted_spent [] site words enough = omega (arith, enough)
granted_spent (want ∷ wants) site words enough = sum_first (want.site == site) want wants site words refl (granted_spent wants site words) enough
