-- How numbers are read in texts.
use Rattle.std.proofs.Common.{◌≡◌, ◌∙◌, ap, arith, refl, subst, sym, ℕ, ℤ, pos, negsuc, zero, suc, ◌+◌, ◌*◌, ◌-ℤ◌, ◌<◌, ◌≤◌, ◌^◌, Bool, true, false, List, [], ◌∷◌, length, Option, Some, None, option_and_then, nat_eq, nat_le, cond, FitsSigned, w32, w64}
use Rattle.std.proofs.lemmas.Bool.Decides.{Decides-int_eq, nat_tests}
use Rattle.std.proofs.lemmas.Int.{SFits-int_wrap, int_wrap_fits, ints}
use Rattle.std.specs.Int.{Width, int_wrap}
use Rattle.std.specs.Ordering.{int_eq}
use Rattle.cb_heap.specs.Reading.{serial_of}
use Rattle.cb_machine.specs.Answering.{digit_of, in_range, number_in, read_digits, read_on, read_some}
use Rattle.cb_natives.specs.Parsing.{SameInRange, at_most, with_sign}
use Rattle.cb_natives.proofs.UnitLaws.{eq_false, eq_true, le_false, le_true}

-- ---- ranges

false_of : (is : Bool) → (is ≡ true → ⊥) → is ≡ false
false_of true not = absurd (not refl)
false_of false not = refl

pub in_range_fits : (w : Width) (number : ℤ) → FitsSigned w number → in_range w number ≡ Some number
in_range_fits w number fits = ap (λ is. cond is (Some number) None) ((Decides-int_eq (int_wrap w number) number).1 (int_wrap_fits w number fits))

pub in_range_not : (w : Width) (number : ℤ) → (FitsSigned w number → ⊥) → in_range w number ≡ None
in_range_not w number not =
    ap (λ is. cond is (Some number) None) (false_of (int_eq (int_wrap w number) number) (λ is. not (subst (FitsSigned w) ((Decides-int_eq (int_wrap w number) number).0 is) (SFits-int_wrap w number))))

-- ---- a size of more than 2 to the 63

minus_is : (size : ℕ) → pos 0 -ℤ pos (suc size) ≡ negsuc size
minus_is size = omega (arith, ints)

minus_large : (size : ℕ) → 2 ^ 63 < size → (FitsSigned w64 (pos 0 -ℤ pos size) → ⊥) × (FitsSigned w32 (pos 0 -ℤ pos size) → ⊥)
minus_large zero large = absurd (omega (arith, large))
minus_large (suc size) large = (
  λ fits. let low : size < 2 ^ 63 = (subst (FitsSigned w64) (minus_is size) fits).sfits in omega (arith, low, large),
  λ fits. let low : size < 2 ^ 31 = (subst (FitsSigned w32) (minus_is size) fits).sfits in omega (arith, low, large),
)

plus_large : (size : ℕ) → 2 ^ 63 < size → (FitsSigned w64 (pos size) → ⊥) × (FitsSigned w32 (pos size) → ⊥)
plus_large size large = (λ fits. let low = fits.sfits in omega (arith, low, large), λ fits. let low = fits.sfits in omega (arith, low, large))

le_not : (a b : ℕ) → nat_le a b ≡ false → b < a
le_not a b not = grind (arith, nat_tests)

sign_some : (minus : Bool) (size : ℕ) (few : Bool) → nat_le size (2 ^ 63) ≡ few → SameInRange (with_sign minus (Some size)) (with_sign minus (cond few (Some size) None))
sign_some minus size true is = record { ints = refl; longs = refl }
sign_some true size false is =
    let large = minus_large size (le_not size (2 ^ 63) is) in
    record { ints = in_range_not w32 (pos 0 -ℤ pos size) large.1; longs = in_range_not w64 (pos 0 -ℤ pos size) large.0 }
sign_some false size false is =
    let large = plus_large size (le_not size (2 ^ 63) is) in
    record { ints = in_range_not w32 (pos size) large.1; longs = in_range_not w64 (pos size) large.0 }

pub sign_so : (minus : Bool) (read size : Option ℕ) → size ≡ at_most read → SameInRange (with_sign minus read) (with_sign minus size)
sign_so minus None size is = subst (λ size. SameInRange (with_sign minus None) (with_sign minus size)) (sym is) (record { ints = refl; longs = refl })
sign_so minus (Some number) size is =
    subst (λ size. SameInRange (with_sign minus (Some number)) (with_sign minus size)) (sym is) (sign_some minus number (nat_le number (2 ^ 63)) refl)

-- ---- digits

pub digits_more : (sum : ℕ) (units more : List ℕ) (unit digit : ℕ) → units ≡ unit ∷ more → digit_of unit ≡ Some digit → read_digits sum units ≡ read_digits (sum * 10 + digit) more
digits_more sum units more unit digit is value =
    ap (read_digits sum) is ∙ ap (λ digit. option_and_then (λ sum. read_digits sum more) (read_on sum digit)) value

pub digits_none : (sum : ℕ) (units more : List ℕ) (unit : ℕ) → units ≡ unit ∷ more → digit_of unit ≡ None → read_digits sum units ≡ None
digits_none sum units more unit is value =
    ap (read_digits sum) is ∙ ap (λ digit. option_and_then (λ sum. read_digits sum more) (read_on sum digit)) value

pub at_most_fits : (sum : ℕ) → sum ≤ 2 ^ 63 → at_most (Some sum) ≡ Some sum
at_most_fits sum fits = ap (λ few. cond few (Some sum) None) (le_true sum (2 ^ 63) fits)

digit_over : (sum : ℕ) (units : List ℕ) → ((more : ℕ) → 2 ^ 63 < more → at_most (read_digits more units) ≡ None) → (digit : Option ℕ) → 2 ^ 63 < sum
    → at_most (option_and_then (λ sum. read_digits sum units) (read_on sum digit)) ≡ None
digit_over sum units more None over = refl
digit_over sum units more (Some digit) over = more (sum * 10 + digit) (omega (arith, over))

pub digits_over : (units : List ℕ) (sum : ℕ) → 2 ^ 63 < sum → at_most (read_digits sum units) ≡ None
digits_over [] sum over = ap (λ few. cond few (Some sum) None) (le_false sum (2 ^ 63) over)
digits_over (unit ∷ units) sum over = digit_over sum units (digits_over units) (digit_of unit) over

pub some_read : (units : List ℕ) → 0 < length units → read_some units ≡ read_digits 0 units
some_read [] some = absurd (omega (arith, some))
some_read (unit ∷ units) some = refl

pub none_read : (units : List ℕ) → length units ≡ 0 → read_some units ≡ None
none_read [] none = refl
none_read (unit ∷ units) none = absurd (omega (arith, none))

-- ---- signs

pub number_none : (units : List ℕ) → length units ≡ 0 → number_in units ≡ None
number_none [] none = refl
number_none (unit ∷ units) none = absurd (omega (arith, none))

pub number_minus : (units more : List ℕ) (unit : ℕ) → units ≡ unit ∷ more → unit ≡ 45 → number_in units ≡ with_sign true (read_some more)
number_minus units more unit is at =
    ap number_in is ∙ ap (λ minus. cond minus (with_sign true (read_some more)) (cond (nat_eq unit 43) (with_sign false (read_some more)) (with_sign false (read_some (unit ∷ more))))) (eq_true unit 45 at)

pub number_plus : (units more : List ℕ) (unit : ℕ) → units ≡ unit ∷ more → (unit ≡ 45 → ⊥) → unit ≡ 43 → number_in units ≡ with_sign false (read_some more)
number_plus units more unit is not at =
    ap number_in is ∙ ap (λ minus. cond minus (with_sign true (read_some more)) (cond (nat_eq unit 43) (with_sign false (read_some more)) (with_sign false (read_some (unit ∷ more))))) (eq_false unit 45 not)
    ∙ ap (λ plus. cond plus (with_sign false (read_some more)) (with_sign false (read_some (unit ∷ more)))) (eq_true unit 43 at)

pub number_bare : (units more : List ℕ) (unit : ℕ) → units ≡ unit ∷ more → (unit ≡ 45 → ⊥) → (unit ≡ 43 → ⊥) → number_in units ≡ with_sign false (read_some units)
number_bare units more unit is not nor =
    ap number_in is ∙ ap (λ minus. cond minus (with_sign true (read_some more)) (cond (nat_eq unit 43) (with_sign false (read_some more)) (with_sign false (read_some (unit ∷ more))))) (eq_false unit 45 not)
    ∙ ap (λ plus. cond plus (with_sign false (read_some more)) (with_sign false (read_some (unit ∷ more)))) (eq_false unit 43 nor)
    ∙ ap (λ units. with_sign false (read_some units)) (sym is)

-- ---- null

pub by_place : {A : Type 0} (none : A) (some : ℕ → A) (result : A) (index : ℕ → ℕ) (at : ℕ) → (at ≡ 0 → ⊥) → some (serial_of index at) ≡ result
    → elim (serial_of index at) as (λ serial. A) [ zero ↦ none | suc place ↦ some (suc place) ] ≡ result
by_place none some result index zero not is = absurd (not refl)
by_place none some result index (suc at) not is = is
