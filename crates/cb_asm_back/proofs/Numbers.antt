-- The numbers of labels.
use Rattle.std.proofs.Common.{◌≡◌, ◌≢◌, ◌∙◌, ◌⊎◌, ap, sym, refl, subst, inl, inr, arith, ℕ, zero, suc, ◌+◌, ◌<◌, ◌≤◌, ◌^◌, ◌/◌, ◌%◌, Bool, true, false, ◌&&◌, ◌||◌, cond, List, [], ◌∷◌, ◌++◌, length, map, Some, ◌==◌, if◌then◌else◌}
use Rattle.std.specs.List.{AllByRecursion, AllPairs, filter}
use Rattle.std.proofs.lemmas.Bool.{eqb-true, eq-eqb}
use Rattle.std.proofs.lemmas.Bool.Decides.{Decides-eqb}
use Rattle.std.proofs.lemmas.Fmt.{decimal_by_steps, decimal_digit, decimal_injective}
use Rattle.std.proofs.lemmas.List.Elements.{All-from_recursion}
use Rattle.std.proofs.lemmas.Slice.Eq.{slice_eq-Decides}
use Rattle.cb_asm_line.specs.Label.{Label}
use Rattle.cb_asm_line.specs.Lines.{same_text}
use Rattle.cb_asm_line.specs.Numbers.{IsDecimal, IsDigit, decimal, digit_zero}
use Rattle.cb_asm_record.specs.Labels.{place_in}
use Rattle.cb_asm_list.specs.Listing.{among, label_of, number_of}
use Rattle.cb_asm_back.proofs.Lists.{both as append_each, weaker}

text_is : (one other : List ℕ) → same_text one other ≡ true → one ≡ other
text_is one other is = (slice_eq-Decides Decides-eqb one other _ refl).0 is

text_itself : (text : List ℕ) → same_text text text ≡ true
text_itself text = (slice_eq-Decides Decides-eqb text text _ refl).1 refl

-- one or another is true where the other is
pub or_right : (one other : Bool) → other ≡ true → (one || other) ≡ true
or_right true other is = refl
or_right false other is = is

-- a number is the first of some, or one of the others
pub first_or : (first place : ℕ) (places : List ℕ) → among (first ∷ places) place ≡ true → (first ≡ place) ⊎ (among places place ≡ true)
first_or first place places is = by_test (first == place) refl is
  where
    by_test : (test : Bool) → (first == place) ≡ test → (test || among places place) ≡ true → (first ≡ place) ⊎ (among places place ≡ true)
    by_test true told is = inl (eqb-true first place told)
    by_test false told is = inr is

pub is_first : (place : ℕ) (places : List ℕ) → among (place ∷ places) place ≡ true
is_first place places = ap (λ test. test || among places place) (eq-eqb place place refl)

pub is_later : (first place : ℕ) (places : List ℕ) → among places place ≡ true → among (first ∷ places) place ≡ true
is_later first place places is = or_right (first == place) (among places place) is

pub each_among : (places : List ℕ) → AllByRecursion (λ place. among places place ≡ true) places
each_among [] = tt
each_among (first ∷ places) = (is_first first places, weaker (λ place. among places place ≡ true) (λ place. among (first ∷ places) place ≡ true) (λ place is. is_later first place places is) places (each_among places))

-- which are among those that pass a test
pub among_filter : (test : ℕ → Bool) (places : List ℕ) (place : ℕ) → among (filter test places) place ≡ (test place && among places place)
among_filter test [] place = by_test (test place)
  where
    by_test : (passes : Bool) → false ≡ (passes && false)
    by_test true = refl
    by_test false = refl
among_filter test (first ∷ places) place = by_test (test first) refl (among_filter test places place)
  where
    same : (passes is other : Bool) → (is ≡ true → passes ≡ true) → (is || (passes && other)) ≡ (passes && (is || other))
    same true is other so = refl
    same false true other so = sym (so refl)
    same false false other so = refl

    gone : (passes is other : Bool) → (is ≡ true → passes ≡ false) → (passes && other) ≡ (passes && (is || other))
    gone false is other so = refl
    gone true true other so = absurd (grind (arith, so))
    gone true false other so = refl

    by_test : (passes : Bool) → test first ≡ passes → among (filter test places) place ≡ (test place && among places place)
        → among (cond passes (first ∷ filter test places) (filter test places)) place ≡ (test place && ((first == place) || among places place))
    by_test true told next = ap (λ rest. (first == place) || rest) next ∙ same (test place) (first == place) (among places place) (λ is. ap test (sym (eqb-true first place is)) ∙ told)
    by_test false told next = next ∙ gone (test place) (first == place) (among places place) (λ is. ap test (sym (eqb-true first place is)) ∙ told)

-- those among some that passed a test are those that pass it
pub filter_again : (test : ℕ → Bool) (all places : List ℕ) → AllByRecursion (λ place. among all place ≡ true) places → filter (among (filter test all)) places ≡ filter test places
filter_again test all [] each = refl
filter_again test all (place ∷ places) each =
    ap (λ passes. cond passes (place ∷ filter (among (filter test all)) places) (filter (among (filter test all)) places)) (among_filter test all place ∙ ap (λ is. test place && is) each.0 ∙ by_test (test place))
    ∙ ap (λ rest. cond (test place) (place ∷ rest) rest) (filter_again test all places each.1)
  where
    by_test : (passes : Bool) → (passes && true) ≡ passes
    by_test true = refl
    by_test false = refl

-- numbers of different ones differ, and are below how many there are
pub number_below : (places : List ℕ) (place : ℕ) → among places place ≡ true → number_of places place < length places
number_below [] place is = absurd (grind (arith, is))
number_below (first ∷ places) place is = by_test (first == place) is (number_below places place)
  where
    by_test : (test : Bool) → (test || among places place) ≡ true → (among places place ≡ true → number_of places place < length places) → (if test then 0 else suc (number_of places place)) < suc (length places)
    by_test true is next = omega arith
    by_test false is next = let here = next is in omega (arith, here)

pub one_number : (places : List ℕ) (one other : ℕ) → among places one ≡ true → among places other ≡ true → number_of places one ≡ number_of places other → one ≡ other
one_number [] one other is are same = absurd (grind (arith, is))
one_number (first ∷ places) one other is are same = by_test (first == one) (first == other) refl refl is are same (one_number places one other)
  where
    by_test : (test tested : Bool) → (first == one) ≡ test → (first == other) ≡ tested → (test || among places one) ≡ true → (tested || among places other) ≡ true
        → (if test then 0 else suc (number_of places one)) ≡ (if tested then 0 else suc (number_of places other))
        → (among places one ≡ true → among places other ≡ true → number_of places one ≡ number_of places other → one ≡ other) → one ≡ other
    by_test true true told told_too is are same next = sym (eqb-true first one told) ∙ eqb-true first other told_too
    by_test true false told told_too is are same next = absurd (omega (arith, same))
    by_test false true told told_too is are same next = absurd (omega (arith, same))
    by_test false false told told_too is are same next = next is are (omega (arith, same))

-- there are fewer than a decimal has room for
abbrev pub AreFew : List ℕ → Type 0
AreFew places = length places < 2 ^ 64

pub one_label : (places : List ℕ) (one other : ℕ) → AreFew places → among places one ≡ true → among places other ≡ true → label_of places one ≡ label_of places other → one ≡ other
one_label places one other few is are same =
    let below = number_below places one is in
    let under = number_below places other are in
    one_number places one other is are (decimal_injective (number_of places one) (number_of places other) (omega (arith, below, few)) (omega (arith, under, few)) same)

-- the labels of some places, with these
abbrev pub marked : List ℕ → List ℕ → List (Label × ℕ)
marked labelled places = map (λ place. (label_of labelled place, place)) places

pub marked_at : (labelled places : List ℕ) (place : ℕ) → AreFew labelled → among labelled place ≡ true → AllByRecursion (λ other. among labelled other ≡ true) places → among places place ≡ true
    → place_in (marked labelled places) (label_of labelled place) ≡ Some place
marked_at labelled [] place few is each there = absurd (grind (arith, there))
marked_at labelled (first ∷ places) place few is each there = by_test (same_text (label_of labelled first) (label_of labelled place)) refl (first_or first place places there) (marked_at labelled places place few is each.1)
  where
    by_test : (test : Bool) → same_text (label_of labelled first) (label_of labelled place) ≡ test → (first ≡ place) ⊎ (among places place ≡ true)
        → (among places place ≡ true → place_in (marked labelled places) (label_of labelled place) ≡ Some place)
        → (if test then Some first else place_in (marked labelled places) (label_of labelled place)) ≡ Some place
    by_test true told here next = ap (λ found. Some found) (one_label labelled first place few each.0 is (text_is (label_of labelled first) (label_of labelled place) told))
    by_test false told (inl here) next = absurd (apart (subst (λ one. same_text (label_of labelled one) (label_of labelled place) ≡ false) here told))
      where
        apart : same_text (label_of labelled place) (label_of labelled place) ≡ false → ⊥
        apart told = let same = text_itself (label_of labelled place) in grind (arith, told, same)
    by_test false told (inr here) next = next here

-- the digits of a number, which have no zero in front where it is above 0
abbrev Leads : List ℕ → Type 0
Leads [] = ⊥
Leads (digit ∷ digits) = ¬ (digit ≡ digit_zero)

abbrev AreDigits : ℕ → List ℕ → Type 0
AreDigits number digits = AllByRecursion IsDigit digits × (0 < number → Leads digits)

leads_on : (digits behind : List ℕ) → Leads digits → Leads (digits ++ behind)
leads_on [] behind leads = absurd leads
leads_on (digit ∷ digits) behind leads = leads

more_digits : (number : ℕ) (digits : List ℕ) → 10 ≤ number → AreDigits (number / 10) digits → AreDigits number (digits ++ (48 + number % 10) ∷ [])
more_digits number digits large are =
    (append_each IsDigit digits ((48 + number % 10) ∷ []) are.0 ((omega arith, omega arith), tt), λ above. leads_on digits ((48 + number % 10) ∷ []) (are.1 (omega (arith, large))))

digits_are : (number : ℕ) → number < 2 ^ 64 → AreDigits number (decimal number)
digits_are number small =
    decimal_by_steps AreDigits (λ digit below. (((omega arith, omega (arith, below)), tt), λ above is. omega (arith, above, is))) more_digits number small

from_digits : (digits : List ℕ) → AllByRecursion IsDigit digits → Leads digits → IsDecimal digits
from_digits [] are leads = leads
from_digits (digit ∷ []) are leads = are.0
from_digits (digit ∷ next ∷ digits) are leads = (leads, are.0, are.1)

pub decimal_is : (number : ℕ) → number < 2 ^ 64 → IsDecimal (decimal number)
decimal_is zero small = subst IsDecimal (sym (decimal_digit 0 (omega arith))) (omega arith, omega arith)
decimal_is (suc number) small = let are = digits_are (suc number) small in from_digits (decimal (suc number)) are.0 (are.1 (omega arith))

-- each of some differs from those behind it
abbrev pub Apart : List ℕ → Type 0
Apart [] = Unit {0}
Apart (place ∷ places) = (among places place ≡ false) × Apart places

pub apart_filter : (test : ℕ → Bool) (places : List ℕ) → Apart places → Apart (filter test places)
apart_filter test [] apart = tt
apart_filter test (place ∷ places) apart = by_test (test place) (apart_filter test places apart.1)
  where
    gone : (passes : Bool) → (passes && false) ≡ false
    gone true = refl
    gone false = refl

    by_test : (passes : Bool) → Apart (filter test places) → Apart (cond passes (place ∷ filter test places) (filter test places))
    by_test true next = (among_filter test places place ∙ ap (λ is. test place && is) apart.0 ∙ gone (test place), next)
    by_test false next = next

-- of two in a list
EachPair : {X : Type 0} → (X → X → Type 0) → List X → Type 0
EachPair R [] = Unit {0}
EachPair R (x ∷ xs) = AllByRecursion (R x) xs × EachPair R xs

all_pairs : {X : Type 0} (R : X → X → Type 0) (xs : List X) → EachPair R xs → AllPairs R xs
unfolding EachPair
all_pairs R [] each i j d before within = absurd (omega (arith, within))
all_pairs R (x ∷ xs) each i zero d before within = absurd (omega (arith, before))
all_pairs R (x ∷ xs) each zero (suc j) d before within = All-from_recursion (R x) xs each.0 j d (omega (arith, within))
all_pairs R (x ∷ xs) each (suc i) (suc j) d before within = all_pairs R xs each.1 i j d (omega (arith, before)) (omega (arith, within))

-- the labels of places that differ do
Differs : Label × ℕ → Label × ℕ → Type 0
Differs one other = one.0 ≢ other.0

from_first : (labelled : List ℕ) (place : ℕ) (places : List ℕ) → AreFew labelled → among labelled place ≡ true → AllByRecursion (λ other. among labelled other ≡ true) places → among places place ≡ false
    → AllByRecursion (Differs (label_of labelled place, place)) (marked labelled places)
unfolding Differs
from_first labelled place [] few is each apart = tt
from_first labelled place (next ∷ places) few is each apart =
    let parts = neither (next == place) (among places place) apart in
    ((λ same. differ parts.0 (eq-eqb next place (sym (one_label labelled place next few is each.0 same)))), from_first labelled place places few is each.1 parts.1)
  where
    neither : (one other : Bool) → (one || other) ≡ false → (one ≡ false) × (other ≡ false)
    neither true other is = absurd (grind (arith, is))
    neither false other is = (refl, is)

    differ : (next == place) ≡ false → (next == place) ≡ true → ⊥
    differ one other = grind (arith, one, other)

each_differs : (labelled places : List ℕ) → AreFew labelled → AllByRecursion (λ other. among labelled other ≡ true) places → Apart places → EachPair Differs (marked labelled places)
unfolding EachPair
each_differs labelled [] few each apart = tt
each_differs labelled (place ∷ places) few each apart = (from_first labelled place places few each.0 each.1 apart.0, each_differs labelled places few each.1 apart.1)

pub marked_once : (labelled : List ℕ) → AreFew labelled → Apart labelled → AllPairs (λ one other. one.0 ≢ other.0) (marked labelled labelled)
unfolding Differs
marked_once labelled few apart = all_pairs Differs (marked labelled labelled) (each_differs labelled labelled few (each_among labelled) apart)

-- any place has the digits of a number for its label
number_most : (places : List ℕ) (place : ℕ) → number_of places place ≤ length places
number_most [] place = omega arith
number_most (first ∷ places) place = by_test (first == place) (number_most places place)
  where
    by_test : (test : Bool) → number_of places place ≤ length places → (if test then 0 else suc (number_of places place)) ≤ suc (length places)
    by_test true next = omega arith
    by_test false next = omega (arith, next)

pub label_is : (labelled : List ℕ) (place : ℕ) → AreFew labelled → IsDecimal (label_of labelled place)
label_is labelled place few = let most = number_most labelled place in decimal_is (number_of labelled place) (omega (arith, most, few))
