-- Texts that stand once among others are no more than these.
use Rattle.std.proofs.Common.{◌≡◌, ◌∙◌, ap, arith, refl, sym, ℕ, zero, suc, ◌≤◌, List, [], ◌∷◌, length, Some, slice_get}
use Rattle.std.specs.Cmp.Lexicographic.{bytes_decides}
use Rattle.std.specs.List.{AllByRecursion}
use Rattle.std.proofs.lemmas.Bool.{false≢true}
use Rattle.std.proofs.lemmas.Option.{same_Some}
use Rattle.cb_kinds.specs.Texts.{EachOnce}
use Rattle.cb_safety.proofs.Assigned.{never}
use Rattle.cb_safety.proofs.OwnKinds.{apart, rest_once}

-- one of others
abbrev pub IsAmong : List (List ℕ) → List ℕ → Type 0
IsAmong others text = (place : ℕ) × (slice_get others place ≡ Some text)

abbrev without : ℕ → List (List ℕ) → List (List ℕ)
without place [] = []
without zero (first ∷ others) = others
without (suc place) (first ∷ others) = first ∷ without place others

fewer : (others : List (List ℕ)) (place : ℕ) (text : List ℕ) → slice_get others place ≡ Some text → length others ≡ suc (length (without place others))
fewer [] place text is = never is
fewer (first ∷ others) zero text is = refl
fewer (first ∷ others) (suc place) text is = ap suc (fewer others place text is)

still : (others : List (List ℕ)) (place : ℕ) (text : List ℕ) (own : ℕ) (other : List ℕ) → slice_get others place ≡ Some text → slice_get others own ≡ Some other → ¬ (other ≡ text)
    → IsAmong (without place others) other
still [] place text own other is at differ = never is
still (first ∷ others) zero text zero other is at differ = absurd (differ (same_Some other text (sym at ∙ is)))
still (first ∷ others) zero text (suc own) other is at differ = (own, at)
still (first ∷ others) (suc place) text zero other is at differ = (0, at)
still (first ∷ others) (suc place) text (suc own) other is at differ = let (found, there) = still others place text own other is at differ in (suc found, there)

differs : (first : List ℕ) (texts : List (List ℕ)) (place : ℕ) (other : List ℕ) → EachOnce (first ∷ texts) → slice_get texts place ≡ Some other → ¬ (other ≡ first)
differs first texts place other once is same = false≢true (sym (apart first texts place other once is) ∙ (bytes_decides other first).1 same)

all_still : (others : List (List ℕ)) (place : ℕ) (text : List ℕ) → slice_get others place ≡ Some text → (texts : List (List ℕ)) → ((turn : ℕ) (other : List ℕ) → slice_get texts turn ≡ Some other → ¬ (other ≡ text))
    → AllByRecursion (IsAmong others) texts → AllByRecursion (IsAmong (without place others)) texts
all_still others place text is [] differ all = tt
all_still others place text is (first ∷ texts) differ all =
    (still others place text all.0.0 first is all.0.1 (differ 0 first refl), all_still others place text is texts (λ turn. differ (suc turn)) all.1)

pub once_few : (texts others : List (List ℕ)) → EachOnce texts → AllByRecursion (IsAmong others) texts → length texts ≤ length others
once_few [] others once all = omega arith
once_few (first ∷ texts) others once all =
    let more : length texts ≤ length (without all.0.0 others) =
    once_few texts (without all.0.0 others) (rest_once first texts once)
    (all_still others all.0.0 first all.0.1 texts (λ turn other is. differs first texts turn other once is) all.1) in
    omega (arith, more, fewer others all.0.0 first all.0.1)
