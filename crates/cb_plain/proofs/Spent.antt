-- A list of wants from which words of a site are taken, by the place of its site.
use Rattle.std.proofs.Common.{◌≡◌, ◌∙◌, ◌<◌, ◌≤◌, ◌+◌, ◌-◌, ◌==◌, ap, sym, refl, arith, subst, ℕ, Bool, true, false, not, Some, None, List, [], ◌∷◌, length, get_or, slice_set, slice_index_or, take, suc, cond}
use Rattle.std.specs.List.{position}
use Rattle.std.proofs.lemmas.List.{get_or-take}
use Rattle.cb_plain.specs.declared.want.Want.{Want}
use Rattle.cb_plain.specs.Requests.{spent, words_at}
use Rattle.cb_plain.proofs.Added.{count_is, found, is_at, lacking, place_in, take_set}

abbrev with_less : Want → ℕ → Want
with_less old words = record { site = old.site; words = old.words - words }

-- what is left when words are taken there
less_first : (first : Bool) (want : Want) (wants : List Want) (site words : ℕ) (blank : Want) → (want.site == site) ≡ first →
    (place_in site wants < length wants → (spent wants site words ≡ slice_set wants (place_in site wants) (with_less (get_or wants (place_in site wants) blank) words)) × (words_at wants site ≡ (get_or wants (place_in site wants) blank).words)) →
    cond (not first) (1 + place_in site wants) 0 < length (want ∷ wants) →
    (spent (want ∷ wants) site words ≡ slice_set (want ∷ wants) (place_in site (want ∷ wants)) (with_less (get_or (want ∷ wants) (place_in site (want ∷ wants)) blank) words))
    × (words_at (want ∷ wants) site ≡ (get_or (want ∷ wants) (place_in site (want ∷ wants)) blank).words)
less_first true want wants site words blank is behind below = rw is (refl, refl)
less_first false want wants site words blank is behind below =
    let next : 1 + place_in site wants ≡ suc (place_in site wants) = omega arith in
    let rest = behind (omega (arith, below)) in
    rw (is, next) (ap (λ rest. want ∷ rest) rest.0, rest.1)

less_at : (wants : List Want) (site words : ℕ) (blank : Want) → place_in site wants < length wants →
    (spent wants site words ≡ slice_set wants (place_in site wants) (with_less (get_or wants (place_in site wants) blank) words)) × (words_at wants site ≡ (get_or wants (place_in site wants) blank).words)
less_at [] site words blank below = absurd (omega (arith, below))
less_at (want ∷ wants) site words blank below = less_first (want.site == site) want wants site words blank refl (less_at wants site words blank) below

same_first : (first : Bool) (want : Want) (wants : List Want) (site words : ℕ) → (want.site == site) ≡ first →
    (length wants ≤ place_in site wants → spent wants site words ≡ wants) → length (want ∷ wants) ≤ cond (not first) (1 + place_in site wants) 0 → spent (want ∷ wants) site words ≡ want ∷ wants
same_first true want wants site words is behind past = absurd (omega (arith, past))
same_first false want wants site words is behind past = rw is (ap (λ rest. want ∷ rest) (behind (omega (arith, past))))

same_past : (wants : List Want) (site words : ℕ) → length wants ≤ place_in site wants → spent wants site words ≡ wants
same_past [] site words past = refl
same_past (want ∷ wants) site words past = same_first (want.site == site) want wants site words refl (same_past wants site words) past

pub spent_at : (wants : List Want) (site words place : ℕ) (blank : Want) → position (is_at site) wants ≡ Some place →
    (spent wants site words ≡ slice_set wants place (with_less (get_or wants place blank) words)) × (words_at wants site ≡ (get_or wants place blank).words) × (place < length wants)
spent_at wants site words place blank some =
    let at = found wants site place some in
    let less = less_at wants site words blank (subst (λ spot. spot < length wants) at.0 at.1) in (
      subst (λ spot. spent wants site words ≡ slice_set wants spot (with_less (get_or wants spot blank) words)) (sym at.0) less.0,
      subst (λ spot. words_at wants site ≡ (get_or wants spot blank).words) (sym at.0) less.1,
      at.1,
    )

pub spent_nowhere : (wants : List Want) (site words : ℕ) → position (is_at site) wants ≡ None → spent wants site words ≡ wants
spent_nowhere wants site words none = same_past wants site words (lacking wants site none)

-- the same of the first so many of a list, which are told by another name
pub spent_taken : (wants now : List Want) (count place site words left : ℕ) (blank : Want) → take count wants ≡ now → count ≤ length wants →
    position (is_at site) now ≡ Some place → left ≡ (slice_index_or wants place blank).words - words →
    take count (slice_set wants place (record { site = (slice_index_or wants place blank).site; words = left })) ≡ spent now site words
spent_taken wants now count place site words left blank is within some rest =
    let at = spent_at now site words place blank some in
    let below : place < count = subst (λ size. place < size) (count_is wants now count is within) at.2 in
    let same : get_or now place blank ≡ slice_index_or wants place blank = ap (λ items. slice_index_or items place blank) (sym is) ∙ get_or-take count wants place blank below in
    let want : record { site = (slice_index_or wants place blank).site; words = left } ≡ with_less (get_or now place blank) words = rw (same, rest) refl in
    take_set wants count place (record { site = (slice_index_or wants place blank).site; words = left }) below
    ∙ ap (λ items. slice_set items place (record { site = (slice_index_or wants place blank).site; words = left })) is
    ∙ ap (λ item. slice_set now place item) want
    ∙ sym at.0

pub enough_taken : (wants now : List Want) (count place site words : ℕ) (blank : Want) → take count wants ≡ now → count ≤ length wants →
    position (is_at site) now ≡ Some place → words ≤ words_at now site → (words ≤ (slice_index_or wants place blank).words) × (place < count)
enough_taken wants now count place site words blank is within some fits =
    let at = spent_at now site words place blank some in
    let below : place < count = subst (λ size. place < size) (count_is wants now count is within) at.2 in
    let same : get_or now place blank ≡ slice_index_or wants place blank = ap (λ items. slice_index_or items place blank) (sym is) ∙ get_or-take count wants place blank below in
    (omega (arith, fits, at.1, ap (λ (want : Want). want.words) same), below)
