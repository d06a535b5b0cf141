-- No two instructions have one name.
use Rattle.std.proofs.Common.{◌≡◌, ◌∙◌, ap, sym, refl, arith, ℕ, zero, suc, Bool, true, false, ◌&&◌, not, List, [], ◌∷◌, slice_get, Some}
use Rattle.std.specs.List.{list_all}
use Rattle.std.proofs.lemmas.Bool.Decides.{Decides-eqb}
use Rattle.std.proofs.lemmas.Option.{same_Some}
use Rattle.std.proofs.lemmas.Slice.Eq.{slice_eq-Decides}
use Rattle.cb_asm_line.specs.Lines.{same_text}
use Rattle.cb_asm_line.specs.Mnemonics.{mnemonics}

text_itself : (text : List ℕ) → same_text text text ≡ true
text_itself text = (slice_eq-Decides Decides-eqb text text _ refl).1 refl

-- whether each word differs from those behind it
abbrev pub distinct : List (List ℕ) → Bool
distinct [] = true
distinct (word ∷ words) = list_all (λ other. not (same_text word other)) words && distinct words

names : distinct mnemonics ≡ true
names = refl

pub both : (one other : Bool) → (one && other) ≡ true → (one ≡ true) × (other ≡ true)
both true other is = (refl, is)
both false other is = absurd (grind (arith, is))

-- what is said of each word is true of the word at a place
pub all_at : (test : List ℕ → Bool) (words : List (List ℕ)) (place : ℕ) (name : List ℕ) → list_all test words ≡ true → slice_get words place ≡ Some name → test name ≡ true
all_at test [] place name each is = absurd (grind (arith, is))
all_at test (word ∷ words) zero name each is = ap test (sym (same_Some word name is)) ∙ (both _ _ each).0
all_at test (word ∷ words) (suc place) name each is = all_at test words place name (both _ _ each).1 is

pub not_itself : (word name : List ℕ) → word ≡ name → not (same_text word name) ≡ true → ⊥
not_itself word name is differs = let same = text_itself word in let there : same_text word name ≡ true = ap (same_text word) (sym is) ∙ same in grind (arith, there, differs)

pub place_of : (words : List (List ℕ)) (one other : ℕ) (name : List ℕ) → distinct words ≡ true → slice_get words one ≡ Some name → slice_get words other ≡ Some name → one ≡ other
place_of [] one other name apart is are = absurd (grind (arith, is))
place_of (word ∷ words) zero zero name apart is are = refl
place_of (word ∷ words) zero (suc other) name apart is are =
    absurd (not_itself word name (same_Some word name is) (all_at (λ next. not (same_text word next)) words other name (both _ _ apart).0 are))
place_of (word ∷ words) (suc one) zero name apart is are =
    absurd (not_itself word name (same_Some word name are) (all_at (λ next. not (same_text word next)) words one name (both _ _ apart).0 is))
place_of (word ∷ words) (suc one) (suc other) name apart is are = ap suc (place_of words one other name (both _ _ apart).1 is are)

pub one_place : (one other : ℕ) (name : List ℕ) → slice_get mnemonics one ≡ Some name → slice_get mnemonics other ≡ Some name → one ≡ other
one_place one other name is are = place_of mnemonics one other name names is are
