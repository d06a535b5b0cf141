-- The words of what a member takes, counted one after the other.
use Rattle.std.proofs.Common.{◌≡◌, ap, ◌∙◌, arith, ℕ, zero, suc, ◌+◌, ◌≤◌, ◌<◌, false, ◌==◌, nat_eq, List, [], ◌∷◌, length, drop, map, Some}
use Rattle.std.proofs.lemmas.Bool.Decides.{nat_tests}
use Rattle.std.specs.List.{slice_get}
use Rattle.cb_kinds.specs.declared.basic.Basic.{Basic}
use Rattle.cb_verify.specs.declared.verification_type.VerificationType.{VerificationType}
use Rattle.cb_verify.specs.Calls.{on_object}
use Rattle.cb_verify.specs.Frames.{height}
use Rattle.cb_verify.specs.Types.{type_of, words}

abbrev pub words_from : List Basic → ℕ → ℕ
words_from basics place = height (map type_of (drop place basics))

pub words_at : (basics : List Basic) (i : ℕ) (basic : Basic) → slice_get basics i ≡ Some basic
    → words_from basics i ≡ words (type_of basic) + words_from basics (i + 1)
words_at [] i basic have = absurd (cc have)
words_at (b ∷ basics) zero basic have = cc have
words_at (b ∷ basics) (suc i) basic have =
    words_at basics i basic have ∙ ap (λ next. words (type_of basic) + words_from (b ∷ basics) next) (let at : suc (i + 1) ≡ suc i + 1 = omega arith in at)

pub words_end : (basics : List Basic) (i : ℕ) → length basics ≤ i → words_from basics i ≡ 0
words_end [] zero done = omega arith
words_end [] (suc i) done = omega arith
words_end (b ∷ basics) zero done = absurd (omega (arith, done))
words_end (b ∷ basics) (suc i) done = words_end basics i (omega (arith, done))

pub words_with_object : (types : List VerificationType) (kind : ℕ) → height (on_object types kind) ≡ height types + 1
words_with_object [] kind = omega arith
words_with_object (type ∷ types) kind = omega (arith, words_with_object types kind)

-- a count that is used up, or has something left
pub too_few : (basics : List Basic) (count left i own : ℕ) (basic : Basic) → slice_get basics i ≡ Some basic → own ≡ words (type_of basic)
    → count + words_from basics i ≡ left + height (map type_of basics) → left < own
    → false ≡ (count == height (on_object (map type_of basics) 0))
too_few basics count left i own basic have is sum less =
    by count (height (on_object (map type_of basics) 0)) (omega (arith, words_at basics i basic have, is, sum, less, words_with_object (map type_of basics) 0)) where
      by : (a b : ℕ) → a < b → false ≡ (a == b)
      by a b less = grind (arith, nat_tests)

pub one_left : (basics : List Basic) (count left i : ℕ) → length basics ≤ i → count + words_from basics i ≡ left + height (map type_of basics)
    → nat_eq left 1 ≡ (count == height (on_object (map type_of basics) 0))
one_left basics count left i done sum =
    by left count (height (on_object (map type_of basics) 0)) (omega (arith, sum, words_end basics i done, words_with_object (map type_of basics) 0)) where
      by : (left count whole : ℕ) → count + 1 ≡ left + whole → nat_eq left 1 ≡ (count == whole)
      by left count whole sum = grind (arith, nat_tests)
