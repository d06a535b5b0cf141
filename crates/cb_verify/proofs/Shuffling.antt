-- The instructions from dup to dup2_x2, and pop and swap, by what they have in common.
use Rattle.std.proofs.Common.{◌≡◌, ◌∙◌, ap, ap₂, refl, sym, ℕ, ◌+◌, true, cond, ◌&&◌, List, [], ◌∷◌, Option, Some, None, drop}
use Rattle.std.specs.List.{slice_get}
use Rattle.std.specs.Option.{option_and_then, option_map}
use Rattle.cb_shapes.specs.Shuffles.{shuffled}
use Rattle.cb_shapes.specs.declared.shuffle.Shuffle.TheVariants.{Pop, Pop2, Dup, DupX1, DupX2, Dup2, Dup2X1, Dup2X2, Swap}
use Rattle.cb_shapes.specs.declared.sort.Category.{Category}
use Rattle.cb_shapes.specs.declared.sort.Category.TheVariants.{One, Two}
use Rattle.cb_verify.specs.declared.verification_type.VerificationType.{VerificationType}
use Rattle.cb_verify.specs.InnerCopies.{begins_with, copied, count_of, count_of_any, dropped, inserted, swapped}
use Rattle.cb_verify.specs.Types.{category}

by_category : {P : Type 0} (found : Option Category) → (found ≡ None → P) → (found ≡ Some One → P) → (found ≡ Some Two → P) → P
by_category None none one two = none refl
by_category (Some One) none one two = one refl
by_category (Some Two) none one two = two refl

pub pop_is : (stack : List VerificationType) → shuffled category Pop stack ≡ dropped One stack
pop_is [] = refl
pop_is (a ∷ []) = by_category (category a) (λ is-a. rw is-a refl) (λ is-a. rw is-a refl) (λ is-a. rw is-a refl)
pop_is (a ∷ b ∷ []) = by_category (category a) (λ is-a. rw is-a refl) (λ is-a. rw is-a refl) (λ is-a. rw is-a refl)
pop_is (a ∷ b ∷ c ∷ []) = by_category (category a) (λ is-a. rw is-a refl) (λ is-a. rw is-a refl) (λ is-a. rw is-a refl)
pop_is (a ∷ b ∷ c ∷ d ∷ rest) = by_category (category a) (λ is-a. rw is-a refl) (λ is-a. rw is-a refl) (λ is-a. rw is-a refl)

pub pop2_is : (stack : List VerificationType) → shuffled category Pop2 stack ≡ dropped Two stack
pop2_is [] = refl
pop2_is (a ∷ []) = by_category (category a) (λ is-a. rw is-a refl) (λ is-a. rw is-a refl) (λ is-a. rw is-a refl)
pop2_is (a ∷ b ∷ []) = by_category (category a) (λ is-a. rw is-a refl) (λ is-a. by_category (category b) (λ is-b. rw (is-a, is-b) refl) (λ is-b. rw (is-a, is-b) refl) (λ is-b. rw (is-a, is-b) refl)) (λ is-a. rw is-a refl)
pop2_is (a ∷ b ∷ c ∷ []) = by_category (category a) (λ is-a. rw is-a refl) (λ is-a. by_category (category b) (λ is-b. rw (is-a, is-b) refl) (λ is-b. rw (is-a, is-b) refl) (λ is-b. rw (is-a, is-b) refl)) (λ is-a. rw is-a refl)
pop2_is (a ∷ b ∷ c ∷ d ∷ rest) = by_category (category a) (λ is-a. rw is-a refl) (λ is-a. by_category (category b) (λ is-b. rw (is-a, is-b) refl) (λ is-b. rw (is-a, is-b) refl) (λ is-b. rw (is-a, is-b) refl)) (λ is-a. rw is-a refl)

pub dup_is : (stack : List VerificationType) → shuffled category Dup stack ≡ copied One None stack
dup_is [] = refl
dup_is (a ∷ []) = by_category (category a) (λ is-a. rw is-a refl) (λ is-a. rw is-a refl) (λ is-a. rw is-a refl)
dup_is (a ∷ b ∷ []) = by_category (category a) (λ is-a. rw is-a refl) (λ is-a. rw is-a refl) (λ is-a. rw is-a refl)
dup_is (a ∷ b ∷ c ∷ []) = by_category (category a) (λ is-a. rw is-a refl) (λ is-a. rw is-a refl) (λ is-a. rw is-a refl)
dup_is (a ∷ b ∷ c ∷ d ∷ rest) = by_category (category a) (λ is-a. rw is-a refl) (λ is-a. rw is-a refl) (λ is-a. rw is-a refl)

pub dup_x1_is : (stack : List VerificationType) → shuffled category DupX1 stack ≡ copied One (Some One) stack
dup_x1_is [] = refl
dup_x1_is (a ∷ []) = by_category (category a) (λ is-a. rw is-a refl) (λ is-a. rw is-a refl) (λ is-a. rw is-a refl)
dup_x1_is (a ∷ b ∷ []) = by_category (category a) (λ is-a. rw is-a refl) (λ is-a. by_category (category b) (λ is-b. rw (is-a, is-b) refl) (λ is-b. rw (is-a, is-b) refl) (λ is-b. rw (is-a, is-b) refl)) (λ is-a. rw is-a refl)
dup_x1_is (a ∷ b ∷ c ∷ []) = by_category (category a) (λ is-a. rw is-a refl) (λ is-a. by_category (category b) (λ is-b. rw (is-a, is-b) refl) (λ is-b. rw (is-a, is-b) refl) (λ is-b. rw (is-a, is-b) refl)) (λ is-a. rw is-a refl)
dup_x1_is (a ∷ b ∷ c ∷ d ∷ rest) = by_category (category a) (λ is-a. rw is-a refl) (λ is-a. by_category (category b) (λ is-b. rw (is-a, is-b) refl) (λ is-b. rw (is-a, is-b) refl) (λ is-b. rw (is-a, is-b) refl)) (λ is-a. rw is-a refl)

pub dup_x2_is : (stack : List VerificationType) → shuffled category DupX2 stack ≡ copied One (Some Two) stack
dup_x2_is [] = refl
dup_x2_is (a ∷ []) = by_category (category a) (λ is-a. rw is-a refl) (λ is-a. rw is-a refl) (λ is-a. rw is-a refl)
dup_x2_is (a ∷ b ∷ []) = by_category (category a) (λ is-a. rw is-a refl) (λ is-a. by_category (category b) (λ is-b. rw (is-a, is-b) refl) (λ is-b. rw (is-a, is-b) refl) (λ is-b. rw (is-a, is-b) refl)) (λ is-a. rw is-a refl)
dup_x2_is (a ∷ b ∷ c ∷ []) = by_category (category a) (λ is-a. rw is-a refl) (λ is-a. by_category (category b) (λ is-b. rw (is-a, is-b) refl) (λ is-b. by_category (category c) (λ is-c. rw (is-a, is-b, is-c) refl) (λ is-c. rw (is-a, is-b, is-c) refl) (λ is-c. rw (is-a, is-b, is-c) refl)) (λ is-b. rw (is-a, is-b) refl)) (λ is-a. rw is-a refl)
dup_x2_is (a ∷ b ∷ c ∷ d ∷ rest) = by_category (category a) (λ is-a. rw is-a refl) (λ is-a. by_category (category b) (λ is-b. rw (is-a, is-b) refl) (λ is-b. by_category (category c) (λ is-c. rw (is-a, is-b, is-c) refl) (λ is-c. rw (is-a, is-b, is-c) refl) (λ is-c. rw (is-a, is-b, is-c) refl)) (λ is-b. rw (is-a, is-b) refl)) (λ is-a. rw is-a refl)

pub dup2_is : (stack : List VerificationType) → shuffled category Dup2 stack ≡ copied Two None stack
dup2_is [] = refl
dup2_is (a ∷ []) = by_category (category a) (λ is-a. rw is-a refl) (λ is-a. rw is-a refl) (λ is-a. rw is-a refl)
dup2_is (a ∷ b ∷ []) = by_category (category a) (λ is-a. rw is-a refl) (λ is-a. by_category (category b) (λ is-b. rw (is-a, is-b) refl) (λ is-b. rw (is-a, is-b) refl) (λ is-b. rw (is-a, is-b) refl)) (λ is-a. rw is-a refl)
dup2_is (a ∷ b ∷ c ∷ []) = by_category (category a) (λ is-a. rw is-a refl) (λ is-a. by_category (category b) (λ is-b. rw (is-a, is-b) refl) (λ is-b. rw (is-a, is-b) refl) (λ is-b. rw (is-a, is-b) refl)) (λ is-a. rw is-a refl)
dup2_is (a ∷ b ∷ c ∷ d ∷ rest) = by_category (category a) (λ is-a. rw is-a refl) (λ is-a. by_category (category b) (λ is-b. rw (is-a, is-b) refl) (λ is-b. rw (is-a, is-b) refl) (λ is-b. rw (is-a, is-b) refl)) (λ is-a. rw is-a refl)

pub dup2_x1_is : (stack : List VerificationType) → shuffled category Dup2X1 stack ≡ copied Two (Some One) stack
dup2_x1_is [] = refl
dup2_x1_is (a ∷ []) = by_category (category a) (λ is-a. rw is-a refl) (λ is-a. rw is-a refl) (λ is-a. rw is-a refl)
dup2_x1_is (a ∷ b ∷ []) = by_category (category a) (λ is-a. rw is-a refl) (λ is-a. by_category (category b) (λ is-b. rw (is-a, is-b) refl) (λ is-b. rw (is-a, is-b) refl) (λ is-b. rw (is-a, is-b) refl)) (λ is-a. by_category (category b) (λ is-b. rw (is-a, is-b) refl) (λ is-b. rw (is-a, is-b) refl) (λ is-b. rw (is-a, is-b) refl))
dup2_x1_is (a ∷ b ∷ c ∷ []) = by_category (category a) (λ is-a. rw is-a refl) (λ is-a. by_category (category b) (λ is-b. rw (is-a, is-b) refl) (λ is-b. by_category (category c) (λ is-c. rw (is-a, is-b, is-c) refl) (λ is-c. rw (is-a, is-b, is-c) refl) (λ is-c. rw (is-a, is-b, is-c) refl)) (λ is-b. rw (is-a, is-b) refl)) (λ is-a. by_category (category b) (λ is-b. rw (is-a, is-b) refl) (λ is-b. rw (is-a, is-b) refl) (λ is-b. rw (is-a, is-b) refl))
dup2_x1_is (a ∷ b ∷ c ∷ d ∷ rest) = by_category (category a) (λ is-a. rw is-a refl) (λ is-a. by_category (category b) (λ is-b. rw (is-a, is-b) refl) (λ is-b. by_category (category c) (λ is-c. rw (is-a, is-b, is-c) refl) (λ is-c. rw (is-a, is-b, is-c) refl) (λ is-c. rw (is-a, is-b, is-c) refl)) (λ is-b. rw (is-a, is-b) refl)) (λ is-a. by_category (category b) (λ is-b. rw (is-a, is-b) refl) (λ is-b. rw (is-a, is-b) refl) (λ is-b. rw (is-a, is-b) refl))

pub dup2_x2_is : (stack : List VerificationType) → shuffled category Dup2X2 stack ≡ copied Two (Some Two) stack
dup2_x2_is [] = refl
dup2_x2_is (a ∷ []) = by_category (category a) (λ is-a. rw is-a refl) (λ is-a. rw is-a refl) (λ is-a. rw is-a refl)
dup2_x2_is (a ∷ b ∷ []) = by_category (category a) (λ is-a. rw is-a refl) (λ is-a. by_category (category b) (λ is-b. rw (is-a, is-b) refl) (λ is-b. rw (is-a, is-b) refl) (λ is-b. rw (is-a, is-b) refl)) (λ is-a. by_category (category b) (λ is-b. rw (is-a, is-b) refl) (λ is-b. rw (is-a, is-b) refl) (λ is-b. rw (is-a, is-b) refl))
dup2_x2_is (a ∷ b ∷ c ∷ []) = by_category (category a) (λ is-a. rw is-a refl) (λ is-a. by_category (category b) (λ is-b. rw (is-a, is-b) refl) (λ is-b. by_category (category c) (λ is-c. rw (is-a, is-b, is-c) refl) (λ is-c. rw (is-a, is-b, is-c) refl) (λ is-c. rw (is-a, is-b, is-c) refl)) (λ is-b. rw (is-a, is-b) refl)) (λ is-a. by_category (category b) (λ is-b. rw (is-a, is-b) refl) (λ is-b. by_category (category c) (λ is-c. rw (is-a, is-b, is-c) refl) (λ is-c. rw (is-a, is-b, is-c) refl) (λ is-c. rw (is-a, is-b, is-c) refl)) (λ is-b. rw (is-a, is-b) refl))
dup2_x2_is (a ∷ b ∷ c ∷ d ∷ rest) = by_category (category a) (λ is-a. rw is-a refl) (λ is-a. by_category (category b) (λ is-b. rw (is-a, is-b) refl) (λ is-b. by_category (category c) (λ is-c. rw (is-a, is-b, is-c) refl) (λ is-c. by_category (category d) (λ is-d. rw (is-a, is-b, is-c, is-d) refl) (λ is-d. rw (is-a, is-b, is-c, is-d) refl) (λ is-d. rw (is-a, is-b, is-c, is-d) refl)) (λ is-c. rw (is-a, is-b, is-c) refl)) (λ is-b. rw (is-a, is-b) refl)) (λ is-a. by_category (category b) (λ is-b. rw (is-a, is-b) refl) (λ is-b. by_category (category c) (λ is-c. rw (is-a, is-b, is-c) refl) (λ is-c. rw (is-a, is-b, is-c) refl) (λ is-c. rw (is-a, is-b, is-c) refl)) (λ is-b. rw (is-a, is-b) refl))

pub swap_is : (stack : List VerificationType) → shuffled category Swap stack ≡ swapped stack
swap_is [] = refl
swap_is (a ∷ []) = refl
swap_is (a ∷ b ∷ []) = by_category (category a) (λ is-a. rw is-a refl) (λ is-a. by_category (category b) (λ is-b. rw (is-a, is-b) refl) (λ is-b. rw (is-a, is-b) refl) (λ is-b. rw (is-a, is-b) refl)) (λ is-a. rw is-a refl)
swap_is (a ∷ b ∷ c ∷ []) = by_category (category a) (λ is-a. rw is-a refl) (λ is-a. by_category (category b) (λ is-b. rw (is-a, is-b) refl) (λ is-b. rw (is-a, is-b) refl) (λ is-b. rw (is-a, is-b) refl)) (λ is-a. rw is-a refl)
swap_is (a ∷ b ∷ c ∷ d ∷ rest) = by_category (category a) (λ is-a. rw is-a refl) (λ is-a. by_category (category b) (λ is-b. rw (is-a, is-b) refl) (λ is-b. rw (is-a, is-b) refl) (λ is-b. rw (is-a, is-b) refl)) (λ is-a. rw is-a refl)

-- two values that change places
pub swapped_is : (stack : List VerificationType) (one other : VerificationType) → begins_with One (drop 0 stack) ≡ true → begins_with One (drop 1 stack) ≡ true
    → slice_get stack 0 ≡ Some one → slice_get stack 1 ≡ Some other → swapped stack ≡ Some (other ∷ one ∷ drop 2 stack)
swapped_is [] one other first second at also = cc
swapped_is (a ∷ []) one other first second at also = cc
swapped_is (a ∷ b ∷ rest) one other first second at also =
    ap₂ (λ first second. cond (first && second) (Some (b ∷ a ∷ rest)) None) first second ∙ ends
  where
    ends : Some (b ∷ a ∷ rest) ≡ Some (other ∷ one ∷ rest)
    ends = cc

-- values that are copied
pub copied_is : (wanted : Category) (under : Option Category) (stack : List VerificationType) (count more : ℕ) → Some count ≡ count_of wanted (drop 0 stack)
    → Some more ≡ count_of_any under (drop count stack) → copied wanted under stack ≡ Some (inserted count (count + more) stack)
copied_is wanted under stack count more is also =
    ap (option_and_then (λ count. option_map (λ more. inserted count (count + more) stack) (count_of_any under (drop count stack)))) (sym is)
    ∙ ap (option_map (λ more. inserted count (count + more) stack)) (sym also)
