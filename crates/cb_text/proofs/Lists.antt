-- Lists of any elements.
use Rattle.std.proofs.Common.{◌≡◌, ◌≢◌, true, false, List, [], ◌∷◌, ◌++◌, length, ◌==◌, ◌∙◌, ap, arith}
use Rattle.std.specs.List.{AllByRecursion}
use Rattle.std.proofs.lemmas.Bool.{false≢true}
use Rattle.std.proofs.lemmas.Bool.Decides.{nat_tests}
use Rattle.std.proofs.lemmas.List.{nil_from_length}

-- what holds of each element of two lists holds of each where they stand one behind the other
pub all-append : {X : Type 0} (P : X → Type 0) (front back : List X) → AllByRecursion P front → AllByRecursion P back → AllByRecursion P (front ++ back)
all-append P [] back of_front of_back = of_back
all-append P (first ∷ front) back of_front of_back = (of_front.0, all-append P front back of_front.1 of_back)

-- and it holds of each of the second where it holds of each of both
pub all-back : {X : Type 0} (P : X → Type 0) (front back : List X) → AllByRecursion P (front ++ back) → AllByRecursion P back
all-back P [] back of_both = of_both
all-back P (first ∷ front) back of_both = all-back P front back of_both.1

-- what follows from what holds of each element holds of each
pub all-all : {X : Type 0} (P Q : X → Type 0) (items : List X) → ((x : X) → P x → Q x) → AllByRecursion P items → AllByRecursion Q items
all-all P Q [] then all = tt
all-all P Q (first ∷ items) then all = (then first all.0, all-all P Q items then all.1)

-- a list that is tested to be empty is
pub nothing : {X : Type 0} (items : List X) → true ≡ (length items == 0) → items ≡ []
nothing items empty = nil_from_length items (grind (arith, nat_tests))

-- and one that is tested not to be isn't
pub something : {X : Type 0} (items : List X) → false ≡ (length items == 0) → items ≢ []
something items full none = false≢true (full ∙ ap (λ items. length items == 0) none)
