-- A list of wants with one more, by the place of its site.
use Rattle.std.proofs.Common.{◌≡◌, ◌∙◌, ◌<◌, ◌≤◌, ◌+◌, ◌==◌, ◌⊎◌, inl, inr, ap, sym, refl, arith, subst, ℕ, Bool, true, false, not, Some, None, List, [], ◌∷◌, ◌++◌, length, min, slice_set, slice_index_or, take, IsTrue, zero, suc, cond, nat_lt}
use Rattle.std.specs.List.{position, prefix_len}
use Rattle.std.proofs.lemmas.List.{get_or-take, length-take-le, take_more_set}
use Rattle.std.proofs.lemmas.Bool.{false≢true, ltb-false, ltb-true}
use Rattle.std.proofs.lemmas.Option.{none-some, same_Some}
use Rattle.cb_plain.specs.declared.want.Want.{Want}
use Rattle.cb_plain.specs.Requests.{add_want, has_site, most_words}

abbrev pub is_at : ℕ → Want → Bool
is_at site want = want.site == site

abbrev with_more : Want → ℕ → Want
with_more old words = record { site = old.site; words = min (old.words + words) most_words }

abbrev pub want_of : ℕ → ℕ → Want
want_of site words = record { site = site; words = words }

abbrev pub place_in : ℕ → List Want → ℕ
place_in site wants = prefix_len (λ want. not (want.site == site)) wants

-- what a place that is found tells, and what none does
pub found_if : (place size : ℕ) (is : Bool) (at : ℕ) → nat_lt place size ≡ is → cond is (Some place) None ≡ Some at → (at ≡ place) × (at < size)
found_if place size true at is some = (sym (same_Some place at some), omega (arith, same_Some place at some, ltb-true place size is))
found_if place size false at is some = absurd (none-some at some)

pub none_if : (place size : ℕ) (is : Bool) → nat_lt place size ≡ is → cond is (Some place) None ≡ None → size ≤ place
none_if place size true is none = absurd (none-some place (sym none))
none_if place size false is none = ltb-false place size is

pub found : (wants : List Want) (site place : ℕ) → position (is_at site) wants ≡ Some place → (place ≡ place_in site wants) × (place < length wants)
found wants site place some = found_if (place_in site wants) (length wants) (nat_lt (place_in site wants) (length wants)) place refl some

pub lacking : (wants : List Want) (site : ℕ) → position (is_at site) wants ≡ None → length wants ≤ place_in site wants
lacking wants site none = none_if (place_in site wants) (length wants) (nat_lt (place_in site wants) (length wants)) refl none

-- the first so many of a list with another item among them
pub take_set : {X : Type 0} (items : List X) (count place : ℕ) (item : X) → place < count → take count (slice_set items place item) ≡ slice_set (take count items) place item
take_set [] zero place item below = refl
take_set [] (suc count) place item below = refl
take_set (first ∷ items) zero place item below = absurd (omega (arith, below))
take_set (first ∷ items) (suc count) zero item below = refl
take_set (first ∷ items) (suc count) (suc place) item below = ap (λ rest. first ∷ rest) (take_set items count place item (omega (arith, below)))

-- where the site is there
joined_first : (first : Bool) (want : Want) (wants : List Want) (site words : ℕ) (blank : Want) → (want.site == site) ≡ first →
    (place_in site wants < length wants → add_want wants (want_of site words) ≡ slice_set wants (place_in site wants) (with_more (slice_index_or wants (place_in site wants) blank) words)) →
    cond (not first) (1 + place_in site wants) 0 < length (want ∷ wants) →
    add_want (want ∷ wants) (want_of site words) ≡ slice_set (want ∷ wants) (place_in site (want ∷ wants)) (with_more (slice_index_or (want ∷ wants) (place_in site (want ∷ wants)) blank) words)
joined_first true want wants site words blank is behind below = rw is refl
joined_first false want wants site words blank is behind below =
    let next : 1 + place_in site wants ≡ suc (place_in site wants) = omega arith in
    rw (is, next) (ap (λ rest. want ∷ rest) (behind (omega (arith, below))))

joined_at : (wants : List Want) (site words : ℕ) (blank : Want) → place_in site wants < length wants →
    add_want wants (want_of site words) ≡ slice_set wants (place_in site wants) (with_more (slice_index_or wants (place_in site wants) blank) words)
joined_at [] site words blank below = absurd (omega (arith, below))
joined_at (want ∷ wants) site words blank below = joined_first (want.site == site) want wants site words blank refl (joined_at wants site words blank) below

-- where it isn't
added_first : (first : Bool) (want : Want) (wants : List Want) (site words : ℕ) → (want.site == site) ≡ first →
    (length wants ≤ place_in site wants → (add_want wants (want_of site words) ≡ wants ++ want_of site (min words most_words) ∷ []) × (has_site site wants ≡ false)) →
    length (want ∷ wants) ≤ cond (not first) (1 + place_in site wants) 0 →
    (add_want (want ∷ wants) (want_of site words) ≡ want ∷ wants ++ want_of site (min words most_words) ∷ []) × (has_site site (want ∷ wants) ≡ false)
added_first true want wants site words is behind past = absurd (omega (arith, past))
added_first false want wants site words is behind past =
    let rest = behind (omega (arith, past)) in
    (rw is (ap (λ rest. want ∷ rest) rest.0), rw is rest.1)

added_behind : (wants : List Want) (site words : ℕ) → length wants ≤ place_in site wants →
    (add_want wants (want_of site words) ≡ wants ++ want_of site (min words most_words) ∷ []) × (has_site site wants ≡ false)
added_behind [] site words past = (refl, refl)
added_behind (want ∷ wants) site words past = added_first (want.site == site) want wants site words refl (added_behind wants site words) past

-- the same of the first so many of a list, which are told by another name
pub count_is : (wants now : List Want) (count : ℕ) → take count wants ≡ now → count ≤ length wants → length now ≡ count
count_is wants now count is within = ap length (sym is) ∙ length-take-le count wants within

pub joined_taken : (wants now : List Want) (count place site words result : ℕ) (blank : Want) → take count wants ≡ now → count ≤ length wants →
    position (is_at site) now ≡ Some place → result ≡ min ((slice_index_or wants place blank).words + words) most_words →
    take count (slice_set wants place (record { site = (slice_index_or wants place blank).site; words = result })) ≡ add_want now (want_of site words)
joined_taken wants now count place site words result blank is within some sum =
    let at = found now site place some in
    let below : place < count = subst (λ size. place < size) (count_is wants now count is within) at.1 in
    let same : slice_index_or now place blank ≡ slice_index_or wants place blank = ap (λ items. slice_index_or items place blank) (sym is) ∙ get_or-take count wants place blank below in
    let want : record { site = (slice_index_or wants place blank).site; words = result } ≡ with_more (slice_index_or now place blank) words = rw (same, sum) refl in
    take_set wants count place (record { site = (slice_index_or wants place blank).site; words = result }) below
    ∙ ap (λ items. slice_set items place (record { site = (slice_index_or wants place blank).site; words = result })) is
    ∙ ap (λ item. slice_set now place item) want
    ∙ ap (λ spot. slice_set now spot (with_more (slice_index_or now spot blank) words)) at.0
    ∙ sym (joined_at now site words blank (subst (λ spot. spot < length now) at.0 at.1))

pub added_taken : (wants now : List Want) (count site words : ℕ) → take count wants ≡ now → count < length wants → position (is_at site) now ≡ None →
    take (count + 1) (slice_set wants count (want_of site (min words most_words))) ≡ add_want now (want_of site words)
added_taken wants now count site words is within none =
    take_more_set wants count (want_of site (min words most_words)) within
    ∙ ap (λ items. items ++ want_of site (min words most_words) ∷ []) is
    ∙ sym (added_behind now site words (lacking now site none)).0

pub room_left : (wants now : List Want) (count site limit : ℕ) → take count wants ≡ now → count ≤ length wants → position (is_at site) now ≡ None →
    IsTrue (has_site site now) ⊎ (length now < limit) → count < limit
room_left wants now count site limit is within none (inl there) = absurd (false≢true (subst IsTrue (added_behind now site 0 (lacking now site none)).1 there))
room_left wants now count site limit is within none (inr room) = subst (λ size. size < limit) (count_is wants now count is within) room
