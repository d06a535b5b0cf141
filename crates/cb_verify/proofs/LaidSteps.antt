-- What `Laid` keeps and answers, step by step.
use Rattle.std.proofs.Common.{◌≡◌, ◌∙◌, ap, sym, refl, arith, subst, ℕ, ◌+◌, ◌-◌, ◌<◌, ◌≤◌, List, [], ◌∷◌, ◌++◌, append_assoc, drop, get_or, length, length-append, slice_set, take, Option, Some, None, option_and_then, option_map}
use Rattle.std.proofs.lemmas.Bool.{cond-true, cond-false, le-leb, lt-leb}
use Rattle.std.proofs.lemmas.List.{length-set, length-take-le, take-append-drop, take-take, take_at, take_more}
use Rattle.std.proofs.lemmas.Option.{same_Some}
use Rattle.cb_verify.specs.declared.verification_type.VerificationType.{VerificationType}
use Rattle.cb_verify.specs.declared.verification_type.VerificationType.TheVariants.{Top, Long}
use Rattle.cb_classfile.specs.Expansion.{without_last}
use Rattle.cb_verify.specs.Frames.{height, laid}
use Rattle.cb_verify.specs.InnerLaid.{Laid, laid_in}
use Rattle.cb_verify.specs.Types.{words}
use Rattle.cb_verify.proofs.LaidValues.{laid_less, laid_more, laid_never, length-laid, lies_not}

pub some_words : (value : VerificationType) → 1 ≤ words value
some_words Long = omega arith
some_words value = omega arith

pub no_room : (most : ℕ) (values : List VerificationType) (value : VerificationType) → most < height (values ++ value ∷ []) → laid_in most (values ++ value ∷ []) ≡ None
no_room most values value past = ap (option_map (λ locals. record { values = values ++ value ∷ []; locals = locals })) (lies_not most (values ++ value ∷ []) past)

pub laid_same : (most : ℕ) (values locals : List VerificationType) → laid most values ≡ Some locals → laid_in most values ≡ Some (record { values = values; locals = locals })
laid_same most values locals is = ap (option_map (λ (all : List VerificationType). record { values = values; locals = all })) is

pub pushed : (values after locals written : List VerificationType) (value : VerificationType) (place : ℕ) → laid (length locals) values ≡ Some locals
    → height values + words value ≤ length locals → place ≡ height values → after ≡ values ++ value ∷ [] → written ≡ slice_set locals place value
    → laid (length locals) after ≡ Some written
pushed values after locals written value place is room at grown set =
    ap (laid (length locals)) grown
    ∙ laid_more (length locals) values locals value is room
    ∙ ap (λ n. Some (slice_set locals n value)) (sym at)
    ∙ ap Some (sym set)

pub kept_length : (locals written values : List VerificationType) (value : VerificationType) (place : ℕ) → written ≡ slice_set locals place value
    → laid (length locals) values ≡ Some written → laid (length written) values ≡ Some written
kept_length locals written values value place set is = subst (λ n. laid n values ≡ Some written) (sym (ap length set ∙ length-set locals place value)) is

pub popped : (values rest locals written : List VerificationType) (value : VerificationType) (place : ℕ) → laid (length locals) values ≡ Some locals
    → values ≡ rest ++ value ∷ [] → place ≡ height rest → written ≡ slice_set locals place Top → laid (length locals) rest ≡ Some written
popped values rest locals written value place is cut at set =
    laid_less (length locals) rest locals value (ap (laid (length locals)) (sym cut) ∙ is)
    ∙ ap (λ n. Some (slice_set locals n Top)) (sym at)
    ∙ ap Some (sym set)

pub without_one : (values rest : List VerificationType) (value : VerificationType) → values ≡ rest ++ value ∷ [] → take (length values - 1) values ≡ rest
without_one values rest value cut =
    ap (λ all. take (length all - 1) all) cut
    ∙ take_at rest (value ∷ []) (length (rest ++ value ∷ []) - 1) (omega (arith, length-append rest (value ∷ [])))

-- values as they lie in so many local variables
pub record Holds (most : ℕ) (lain : List VerificationType) (all : Laid) : Type 0 where
  pub values : all.values ≡ lain
  pub is : laid_in most lain ≡ Some all
  pub room : length all.locals ≡ most

pub holds : (most : ℕ) (values : List VerificationType) (all : Laid) → laid_in most values ≡ Some all → Holds most values all
holds most values all is = go (laid most values) refl is
  where
    go : (locals : Option (List VerificationType)) → laid most values ≡ locals → option_map {U = Laid} (λ (found : List VerificationType). record { values = values; locals = found }) locals ≡ Some all → Holds most values all
    go None at none = absurd (let never : None ≡ Some all = none in cc)
    go (Some locals) at some =
        let same : record { values = values; locals = locals } ≡ all = same_Some (record { values = values; locals = locals }) all some in
        record { values = sym (ap (λ (lain : Laid). lain.values) same); is = is; room = ap (λ (lain : Laid). length lain.locals) (sym same) ∙ length-laid most values locals at }

-- what a step says of values that lie, by what lies
pub step_said : {most : ℕ} {values : List VerificationType} {all : Laid} (change : List VerificationType → List VerificationType) (result : Option Laid) → Holds most values all
    → result ≡ laid_in (length all.locals) (change all.values) → result ≡ laid_in most (change values)
step_said {most} {values} {all} change result held says = says ∙ ap (λ n. laid_in n (change all.values)) held.room ∙ ap (λ own. laid_in most (change own)) held.values

-- one more of some that are added
pub added_more : (values more : List VerificationType) (i : ℕ) (d : VerificationType) → i < length more → (values ++ take i more) ++ get_or more i d ∷ [] ≡ values ++ take (i + 1) more
added_more values more i d within = append_assoc values (take i more) (get_or more i d ∷ []) ∙ ap (λ all. values ++ all) (sym (take_more more i d within))

pub added_never : (most : ℕ) (values more : List VerificationType) (i : ℕ) → laid_in most (values ++ take i more) ≡ None → laid_in most (values ++ more) ≡ None
added_never most values more i none = go (laid most (values ++ take i more)) refl none
  where
    go : (locals : Option (List VerificationType)) → laid most (values ++ take i more) ≡ locals
        → option_map {U = Laid} (λ (found : List VerificationType). record { values = values ++ take i more; locals = found }) locals ≡ None → laid_in most (values ++ more) ≡ None
    go (Some locals) at some = absurd (let never : Some (record { values = values ++ take i more; locals = locals }) ≡ None = some in cc)
    go None at is =
        ap (laid_in most) (ap (λ all. values ++ all) (sym (take-append-drop i more)) ∙ sym (append_assoc values (take i more) (drop i more)))
        ∙ ap (option_map {U = Laid} (λ (found : List VerificationType). record { values = (values ++ take i more) ++ drop i more; locals = found })) (laid_never most (values ++ take i more) (drop i more) at)

-- one less of some that are left
pub left_less : (values : List VerificationType) (n i : ℕ) → i < n → n ≤ length values
    → take (length (take (length values - i) values) - 1) (take (length values - i) values) ≡ take (length values - (i + 1)) values
left_less values n i within some =
    take-take (length (take (length values - i) values) - 1) (length values - i) values (omega (arith, left))
    ∙ ap (λ m. take m values) (let less : length (take (length values - i) values) - 1 ≡ length values - (i + 1) = omega (arith, left) in less)
  where
    left : length (take (length values - i) values) ≡ length values - i
    left = length-take-le (length values - i) values (omega arith)

pub enough : (most count : ℕ) (values : List VerificationType) → count ≤ length values
    → option_and_then (laid_in most) (without_last count values) ≡ laid_in most (take (length values - count) values)
enough most count values within = ap (option_and_then (laid_in most)) (cond-true _ (Some (take (length values - count) values)) None (le-leb count (length values) within))

pub too_few : (most count : ℕ) (values : List VerificationType) → length values < count → option_and_then (laid_in most) (without_last count values) ≡ None
too_few most count values past = ap (option_and_then (laid_in most)) (cond-false _ (Some (take (length values - count) values)) None (lt-leb count (length values) past))
