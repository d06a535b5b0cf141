-- Stacks that are compared word by word.
use Rattle.std.proofs.Common.{◌≡◌, ℕ, zero, suc, ◌+◌, ◌<◌, ◌≤◌, Bool, true, false, List, [], ◌∷◌, length, drop, Option, Some, None, refl, sym, ◌∙◌, ap, arith}
use Rattle.std.specs.Prelude.{◌&&◌, if◌then◌else◌, ◌==◌}
use Rattle.std.specs.Cmp.Lexicographic.{pointwise}
use Rattle.std.specs.Prelude.{slice_get}
use Rattle.std.proofs.lemmas.Bool.Decides.{nat_tests}
use Rattle.std.proofs.lemmas.List.{drop-drop}
use Rattle.cb_link.specs.Program.{Linked}
use Rattle.cb_verify.specs.declared.verification_type.VerificationType.{VerificationType}
use Rattle.cb_verify.specs.declared.verification_type.VerificationType.TheVariants.{Top, Int, Long, Null, This, Object, New}
use Rattle.cb_verify.specs.Frames.{stack_goes_to, stack_words}
use Rattle.cb_verify.specs.Types.{goes_to, is_of}
use Rattle.cb_verify.specs.InnerWords.{begins_with_top, is_top, rest_goes_to, taken_by, taken_by_long, taken_by_one}
use Rattle.cb_shapes.specs.declared.sort.Sort.TheVariants as sorts
use Rattle.cb_verify.proofs.Dropped.{drop_end, drop_next}

-- no word but the lower one of a long is assignable to that
to_long : (program : Linked) (stack others : List VerificationType) → pointwise (goes_to program) (stack_words stack) (Long ∷ others) ≡ false
to_long program [] others = refl
to_long program (Top ∷ stack) others = refl
to_long program (Int ∷ stack) others = refl
to_long program (Null ∷ stack) others = refl
to_long program (This ∷ stack) others = refl
to_long program ((Object kind) ∷ stack) others = refl
to_long program ((New place) ∷ stack) others = refl
to_long program (Long ∷ stack) others = refl

-- a test, and then the rest
by_test : (test : Bool) (program : Linked) (stack others : List VerificationType) (other : VerificationType) → (test && stack_goes_to program stack others) ≡ rest_goes_to program stack (other ∷ others) (if test then Some 1 else None)
by_test true program stack others other = refl
by_test false program stack others other = refl

both_false : (test rest : Bool) → rest ≡ false → (test && rest) ≡ false
both_false true rest is = is
both_false false rest is = refl

-- the topmost value takes its words, and the rest is compared with the rest
pub next_words : (program : Linked) (type : VerificationType) (stack others : List VerificationType) → stack_goes_to program (type ∷ stack) others ≡ rest_goes_to program stack others (taken_by program type others)
next_words program Long stack [] = refl
next_words program Long stack (Long ∷ others) = refl
next_words program Long stack (Top ∷ []) = refl
next_words program Long stack (Top ∷ Top ∷ others) = refl
next_words program Long stack (Top ∷ Long ∷ others) = to_long program stack (stack_words others)
next_words program Long stack (Top ∷ Int ∷ others) = refl
next_words program Long stack (Top ∷ Null ∷ others) = refl
next_words program Long stack (Top ∷ This ∷ others) = refl
next_words program Long stack (Top ∷ (Object kind) ∷ others) = refl
next_words program Long stack (Top ∷ (New place) ∷ others) = refl
next_words program Long stack (Int ∷ others) = refl
next_words program Long stack (Null ∷ others) = refl
next_words program Long stack (This ∷ others) = refl
next_words program Long stack ((Object kind) ∷ others) = refl
next_words program Long stack ((New place) ∷ others) = refl
next_words program Top stack [] = refl
next_words program Top stack (Long ∷ others) = to_long program stack (stack_words others)
next_words program Top stack (Top ∷ others) = by_test (goes_to program Top Top) program stack others Top
next_words program Top stack (Int ∷ others) = by_test (goes_to program Top Int) program stack others Int
next_words program Top stack (Null ∷ others) = by_test (goes_to program Top Null) program stack others Null
next_words program Top stack (This ∷ others) = by_test (goes_to program Top This) program stack others This
next_words program Top stack ((Object other) ∷ others) = by_test (goes_to program Top (Object other)) program stack others (Object other)
next_words program Top stack ((New other) ∷ others) = by_test (goes_to program Top (New other)) program stack others (New other)
next_words program Int stack [] = refl
next_words program Int stack (Long ∷ others) = to_long program stack (stack_words others)
next_words program Int stack (Top ∷ others) = by_test (goes_to program Int Top) program stack others Top
next_words program Int stack (Int ∷ others) = by_test (goes_to program Int Int) program stack others Int
next_words program Int stack (Null ∷ others) = by_test (goes_to program Int Null) program stack others Null
next_words program Int stack (This ∷ others) = by_test (goes_to program Int This) program stack others This
next_words program Int stack ((Object other) ∷ others) = by_test (goes_to program Int (Object other)) program stack others (Object other)
next_words program Int stack ((New other) ∷ others) = by_test (goes_to program Int (New other)) program stack others (New other)
next_words program Null stack [] = refl
next_words program Null stack (Long ∷ others) = to_long program stack (stack_words others)
next_words program Null stack (Top ∷ others) = by_test (goes_to program Null Top) program stack others Top
next_words program Null stack (Int ∷ others) = by_test (goes_to program Null Int) program stack others Int
next_words program Null stack (Null ∷ others) = by_test (goes_to program Null Null) program stack others Null
next_words program Null stack (This ∷ others) = by_test (goes_to program Null This) program stack others This
next_words program Null stack ((Object other) ∷ others) = by_test (goes_to program Null (Object other)) program stack others (Object other)
next_words program Null stack ((New other) ∷ others) = by_test (goes_to program Null (New other)) program stack others (New other)
next_words program This stack [] = refl
next_words program This stack (Long ∷ others) = to_long program stack (stack_words others)
next_words program This stack (Top ∷ others) = by_test (goes_to program This Top) program stack others Top
next_words program This stack (Int ∷ others) = by_test (goes_to program This Int) program stack others Int
next_words program This stack (Null ∷ others) = by_test (goes_to program This Null) program stack others Null
next_words program This stack (This ∷ others) = by_test (goes_to program This This) program stack others This
next_words program This stack ((Object other) ∷ others) = by_test (goes_to program This (Object other)) program stack others (Object other)
next_words program This stack ((New other) ∷ others) = by_test (goes_to program This (New other)) program stack others (New other)
next_words program (Object kind) stack [] = refl
next_words program (Object kind) stack (Long ∷ others) = to_long program stack (stack_words others)
next_words program (Object kind) stack (Top ∷ others) = by_test (goes_to program (Object kind) Top) program stack others Top
next_words program (Object kind) stack (Int ∷ others) = by_test (goes_to program (Object kind) Int) program stack others Int
next_words program (Object kind) stack (Null ∷ others) = by_test (goes_to program (Object kind) Null) program stack others Null
next_words program (Object kind) stack (This ∷ others) = by_test (goes_to program (Object kind) This) program stack others This
next_words program (Object kind) stack ((Object other) ∷ others) = by_test (goes_to program (Object kind) (Object other)) program stack others (Object other)
next_words program (Object kind) stack ((New other) ∷ others) = by_test (goes_to program (Object kind) (New other)) program stack others (New other)
next_words program (New place) stack [] = refl
next_words program (New place) stack (Long ∷ others) = to_long program stack (stack_words others)
next_words program (New place) stack (Top ∷ others) = by_test (goes_to program (New place) Top) program stack others Top
next_words program (New place) stack (Int ∷ others) = by_test (goes_to program (New place) Int) program stack others Int
next_words program (New place) stack (Null ∷ others) = by_test (goes_to program (New place) Null) program stack others Null
next_words program (New place) stack (This ∷ others) = by_test (goes_to program (New place) This) program stack others This
next_words program (New place) stack ((Object other) ∷ others) = by_test (goes_to program (New place) (Object other)) program stack others (Object other)
next_words program (New place) stack ((New other) ∷ others) = by_test (goes_to program (New place) (New other)) program stack others (New other)

-- no word is assignable to no word alone
some_left : (program : Linked) (others : List VerificationType) (behind : ℕ) → behind < length others → stack_goes_to program [] (drop behind others) ≡ false
some_left program [] behind less = absurd (omega (arith, less))
some_left program (Top ∷ others) zero less = refl
some_left program (Int ∷ others) zero less = refl
some_left program (Null ∷ others) zero less = refl
some_left program (This ∷ others) zero less = refl
some_left program ((Object kind) ∷ others) zero less = refl
some_left program ((New place) ∷ others) zero less = refl
some_left program (Long ∷ others) zero less = refl
some_left program (type ∷ others) (suc behind) less = some_left program others behind (omega (arith, less))

pub at_end : (program : Linked) (others : List VerificationType) (behind : ℕ) (ends : Bool) → behind ≤ length others → (behind == length others) ≡ ends → ends ≡ stack_goes_to program [] (drop behind others)
at_end program others behind true within is = sym (ap (stack_goes_to program []) (drop_end others behind (grind (arith, nat_tests, is))))
at_end program others behind false within is = sym (some_left program others behind (grind (arith, nat_tests, is, within)))

-- what is asked at a place of a stack, and at its end
pub top_at : (stack : List VerificationType) (place : ℕ) (type : VerificationType) → slice_get stack place ≡ Some type → begins_with_top (drop place stack) ≡ is_top type
top_at stack place type at = ap begins_with_top (drop_next stack place type at)

pub top_past : (stack : List VerificationType) (place : ℕ) → length stack ≤ place → begins_with_top (drop place stack) ≡ false
top_past stack place past = ap begins_with_top (drop_end stack place past)

pub long_at : (stack : List VerificationType) (place : ℕ) (type : VerificationType) → slice_get stack place ≡ Some type
    → taken_by_long (drop place stack) ≡ (if is_of sorts.Long type then Some 1 else if is_top type && begins_with_top (drop (place + 1) stack) then Some 2 else None)
long_at stack place type at = ap taken_by_long (drop_next stack place type at)

pub long_past : (stack : List VerificationType) (place : ℕ) → length stack ≤ place → taken_by_long (drop place stack) ≡ None
long_past stack place past = ap taken_by_long (drop_end stack place past)

pub one_at : (program : Linked) (value : VerificationType) (stack : List VerificationType) (place : ℕ) (type : VerificationType) → slice_get stack place ≡ Some type
    → taken_by_one program value (drop place stack) ≡ (if goes_to program value type then Some 1 else None)
one_at program value stack place type at = ap (taken_by_one program value) (drop_next stack place type at)

pub one_past : (program : Linked) (value : VerificationType) (stack : List VerificationType) (place : ℕ) → length stack ≤ place → taken_by_one program value (drop place stack) ≡ None
one_past program value stack place past = ap (taken_by_one program value) (drop_end stack place past)

-- and what is found there
pub long_first : (stack : List VerificationType) (place : ℕ) (type : VerificationType) → slice_get stack place ≡ Some type → is_of sorts.Long type ≡ true → Some 1 ≡ taken_by_long (drop place stack)
long_first stack place type at is =
    sym (long_at stack place type at ∙ ap (λ test. if test then Some 1 else if is_top type && begins_with_top (drop (place + 1) stack) then Some 2 else None) is)

not_long : (stack : List VerificationType) (place : ℕ) (type : VerificationType) (both : Bool) → slice_get stack place ≡ Some type → is_of sorts.Long type ≡ false → (is_top type && begins_with_top (drop (place + 1) stack)) ≡ both → (if both then Some 2 else None) ≡ taken_by_long (drop place stack)
not_long stack place type both at is so =
    sym (long_at stack place type at ∙ ap (λ test. if test then Some 1 else if is_top type && begins_with_top (drop (place + 1) stack) then Some 2 else None) is
    ∙ ap (λ test. if test then Some 2 else None) so)

both_true : (one other : Bool) → one ≡ true → other ≡ true → (one && other) ≡ true
both_true true other is also = also
both_true false other is also = absurd cc

pub tops_first : (stack : List VerificationType) (place : ℕ) (type : VerificationType) → slice_get stack place ≡ Some type → is_of sorts.Long type ≡ false → is_top type ≡ true → begins_with_top (drop (place + 1) stack) ≡ true → Some 2 ≡ taken_by_long (drop place stack)
tops_first stack place type at is top next = not_long stack place type true at is (both_true (is_top type) (begins_with_top (drop (place + 1) stack)) top next)

first_false : (one other : Bool) → one ≡ false → (one && other) ≡ false
first_false true other is = absurd cc
first_false false other is = refl

pub one_top : (stack : List VerificationType) (place : ℕ) (type : VerificationType) → slice_get stack place ≡ Some type → is_of sorts.Long type ≡ false → begins_with_top (drop (place + 1) stack) ≡ false → None ≡ taken_by_long (drop place stack)
one_top stack place type at is next = not_long stack place type false at is (both_false (is_top type) (begins_with_top (drop (place + 1) stack)) next)

pub no_top : (stack : List VerificationType) (place : ℕ) (type : VerificationType) → slice_get stack place ≡ Some type → is_of sorts.Long type ≡ false → is_top type ≡ false → None ≡ taken_by_long (drop place stack)
no_top stack place type at is top = not_long stack place type false at is (first_false (is_top type) (begins_with_top (drop (place + 1) stack)) top)

pub one_first : (program : Linked) (value : VerificationType) (stack : List VerificationType) (place : ℕ) (type : VerificationType) → slice_get stack place ≡ Some type → is_of sorts.Long value ≡ false → goes_to program value type ≡ true → Some 1 ≡ taken_by program value (drop place stack)
one_first program value stack place type at is goes =
    sym (ap (λ test. if test then taken_by_long (drop place stack) else taken_by_one program value (drop place stack)) is
    ∙ one_at program value stack place type at ∙ ap (λ test. if test then Some 1 else None) goes)

-- one step of the comparison: the rest, from where it has come to
pub next_step : (program : Linked) (stack others : List VerificationType) (place behind : ℕ) (type : VerificationType) (taken : Option ℕ) (all : Bool) → slice_get stack place ≡ Some type
    → taken ≡ taken_by program type (drop behind others) → stack_goes_to program (drop place stack) (drop behind others) ≡ all → rest_goes_to program (drop (place + 1) stack) (drop behind others) taken ≡ all
next_step program stack others place behind type taken all at is so =
    ap (rest_goes_to program (drop (place + 1) stack) (drop behind others)) is ∙ sym (next_words program type (drop (place + 1) stack) (drop behind others))
    ∙ sym (ap (λ rest. stack_goes_to program rest (drop behind others)) (drop_next stack place type at)) ∙ so

pub next_failed : (program : Linked) (stack others : List VerificationType) (place behind : ℕ) (type : VerificationType) (all : Bool) → slice_get stack place ≡ Some type
    → None ≡ taken_by program type (drop behind others) → stack_goes_to program (drop place stack) (drop behind others) ≡ all → false ≡ all
next_failed program stack others place behind type all at is so = next_step program stack others place behind type None all at is so

pub next_taken : (program : Linked) (stack others : List VerificationType) (place behind count : ℕ) (type : VerificationType) (all : Bool) → slice_get stack place ≡ Some type
    → Some count ≡ taken_by program type (drop behind others) → stack_goes_to program (drop place stack) (drop behind others) ≡ all
    → stack_goes_to program (drop (place + 1) stack) (drop (behind + count) others) ≡ all
next_taken program stack others place behind count type all at is so =
    ap (stack_goes_to program (drop (place + 1) stack)) (sym (drop-drop count behind others)) ∙ next_step program stack others place behind type (Some count) all at is so

pub compared_to_end : (program : Linked) (stack others : List VerificationType) (place behind : ℕ) (all : Bool) → length stack ≤ place → behind ≤ length others
    → stack_goes_to program (drop place stack) (drop behind others) ≡ all → (behind == length others) ≡ all
compared_to_end program stack others place behind all past within so =
    at_end program others behind (behind == length others) within refl ∙ sym (ap (λ rest. stack_goes_to program rest (drop behind others)) (drop_end stack place past)) ∙ so

pub taken_alone : (program : Linked) (type : VerificationType) (others : List VerificationType) (count : ℕ) → Some count ≡ taken_by program type others → count ≤ length others
    → (count == length others) ≡ stack_goes_to program (type ∷ []) others
taken_alone program type others count is within =
    at_end program others count (count == length others) within refl ∙ ap (rest_goes_to program [] others) is ∙ sym (next_words program type [] others)
