-- Local variables of which nothing is known from a number on.
use Rattle.std.proofs.Common.{◌≡◌, ◌∙◌, ap, ap₂, refl, sym, arith, ℕ, zero, suc, ◌+◌, ◌-◌, ◌<◌, ◌≤◌, Bool, true, false, ◌&&◌, cond, List, [], ◌∷◌, ◌++◌, Some, drop, length, replicate, slice_set, take}
use Rattle.std.specs.Cmp.Lexicographic.{pointwise}
use Rattle.std.specs.List.{flat_map}
use Rattle.std.proofs.lemmas.List.{drop-append-le, drop-drop, drop-replicate, drop-set-lt, drop_all, length-drop, length-set, map-append, take-append-drop}
use Rattle.cb_verify.specs.declared.verification_type.VerificationType.{VerificationType}
use Rattle.cb_verify.specs.declared.verification_type.VerificationType.TheVariants.{Top, Int, Long, Null, This, Object, New}
use Rattle.cb_verify.specs.Frames.{height, in_words, is_same, laid, replaced}
use Rattle.cb_verify.specs.InnerLocals.{IsKnownTo}
use Rattle.cb_verify.proofs.LaidValues.{length-flat, lies_where, lies_within}

-- something is known of one more
pub known_more : (locals written : List VerificationType) (known more number : ℕ) (value : VerificationType) → IsKnownTo known locals → known ≤ more → number < more
    → more ≤ length locals → written ≡ slice_set locals number value → IsKnownTo more written
known_more locals written known more number value is grown within room set = (
  omega (arith, room, size),
  ap (drop more) set
      ∙ drop-set-lt more locals number value within
      ∙ ap (λ n. drop n locals) (let all : more ≡ known + (more - known) = omega (arith, grown) in all)
      ∙ sym (drop-drop (more - known) known locals)
      ∙ ap (drop (more - known)) is.1
      ∙ drop-replicate (more - known) (length locals - known) Top
      ∙ ap (λ n. replicate n Top) (let rest : (length locals - known) - (more - known) ≡ length written - more = omega (arith, size, grown, room) in rest),
)
  where
    size : length written ≡ length locals
    size = ap length set ∙ length-set locals number value

-- whatever is compared with those of which nothing is known passes
pairs_above : (test : VerificationType → VerificationType → Bool) → ((one : VerificationType) → test one Top ≡ true) → (ones : List VerificationType) (n : ℕ) → length ones ≡ n
    → pointwise test ones (replicate n Top) ≡ true
pairs_above test passes [] zero same = refl
pairs_above test passes [] (suc n) same = absurd (omega (arith, same))
pairs_above test passes (one ∷ ones) zero same = absurd (omega (arith, same))
pairs_above test passes (one ∷ ones) (suc n) same = ap₂ (λ first rest. first && rest) (passes one) (pairs_above test passes ones n (omega (arith, same)))

pub pairs_known : (test : VerificationType → VerificationType → Bool) → ((one : VerificationType) → test one Top ≡ true) → (ones others : List VerificationType) (known place : ℕ) (all : Bool)
    → IsKnownTo known others → length ones ≡ length others → known ≤ place → place ≤ known → pointwise test (drop place ones) (drop place others) ≡ all → true ≡ all
pairs_known test passes ones others known place all is same past within so =
    sym (pairs_above test passes (drop known ones) (length others - known) (omega (arith, length-drop known ones, same)))
    ∙ ap (pointwise test (drop known ones)) (sym is.1)
    ∙ ap (λ n. pointwise test (drop n ones) (drop n others)) (let at : known ≡ place = omega (arith, past, within) in at)
    ∙ so

-- and nothing is replaced in them
is_not_top : (old : VerificationType) → is_same old Top ≡ false
is_not_top Top = refl
is_not_top Int = refl
is_not_top Long = refl
is_not_top Null = refl
is_not_top This = refl
is_not_top (Object kind) = refl
is_not_top (New place) = refl

replaced_above : (old new : VerificationType) (n : ℕ) → replaced old new (replicate n Top) ≡ replicate n Top
replaced_above old new zero = refl
replaced_above old new (suc n) = ap₂ (λ first rest. first ∷ rest) (ap (λ same. cond same new Top) (is_not_top old)) (replaced_above old new n)

pub replaced_known : (old new : VerificationType) (locals all : List VerificationType) (known place : ℕ) → IsKnownTo known locals → known ≤ place → place ≤ known
    → all ≡ replaced old new (take place locals) ++ drop place locals → all ≡ replaced old new locals
replaced_known old new locals all known place is past within so =
    so
    ∙ ap (λ n. replaced old new (take n locals) ++ drop n locals) (let at : place ≡ known = omega (arith, past, within) in at)
    ∙ ap (λ rest. replaced old new (take known locals) ++ rest) (is.1 ∙ sym (replaced_above old new (length locals - known)) ∙ ap (replaced old new) (sym is.1))
    ∙ sym (map-append (λ own. cond (is_same old own) new own) (take known locals) (drop known locals))
    ∙ ap (replaced old new) (take-append-drop known locals)

-- values that lie in local variables are known to their end
pub known_laid : (values locals : List VerificationType) (words : ℕ) → laid (length locals) values ≡ Some locals → words ≡ height values → IsKnownTo words locals
known_laid values locals words is high = (
  omega (arith, high, lies_within (length locals) values locals is),
  ap₂ (λ n all. drop n all) at (lies_where (length locals) values locals is)
      ∙ drop-append-le (length (flat_map in_words values)) (flat_map in_words values) rest (omega arith)
      ∙ ap (λ front. front ++ rest) (drop_all (length (flat_map in_words values)) (flat_map in_words values) (omega arith))
      ∙ ap (λ n. replicate (length locals - n) Top) (sym high),
)
  where
    rest : List VerificationType
    rest = replicate (length locals - height values) Top

    at : words ≡ length (flat_map in_words values)
    at = high ∙ sym (length-flat values)
