-- What holds of each element of a list.
use Rattle.std.proofs.Common.{◌≡◌, ◌↔◌, ℕ, ◌+◌, ◌<◌, List, [], ◌∷◌, ◌++◌, length, get_or, take, sym, subst}
use Rattle.std.specs.List.{AllByRecursion}
use Rattle.std.proofs.lemmas.List.{take_more}

-- it holds of each element of two lists where they stand one behind the other
pub all-append : {X : Type 0} (P : X → Type 0) (front back : List X) → AllByRecursion P front → AllByRecursion P back → AllByRecursion P (front ++ back)
all-append P [] back of_front of_back = of_back
all-append P (first ∷ front) back of_front of_back = (of_front.0, all-append P front back of_front.1 of_back)

pub all_front : {X : Type 0} (P : X → Type 0) (front back : List X) → AllByRecursion P (front ++ back) → AllByRecursion P front
all_front P [] back all = tt
all_front P (first ∷ front) back all = (all.0, all_front P front back all.1)

pub all_back : {X : Type 0} (P : X → Type 0) (front back : List X) → AllByRecursion P (front ++ back) → AllByRecursion P back
all_back P [] back all = all
all_back P (first ∷ front) back all = all_back P front back all.1

-- what follows from it holds too
pub all-weaker : {X : Type 0} (P Q : X → Type 0) → ((x : X) → P x → Q x) → (items : List X) → AllByRecursion P items → AllByRecursion Q items
all-weaker P Q weaker [] all = tt
all-weaker P Q weaker (item ∷ items) all = (weaker item all.0, all-weaker P Q weaker items all.1)

-- it holds of one more unit
pub all_more : (P : ℕ → Type 0) (text : List ℕ) (index : ℕ) → index < length text → AllByRecursion P (take (index + 1) text) ↔ (AllByRecursion P (take index text) × P (get_or text index 0))
all_more P text index within =
    let more : take (index + 1) text ≡ take index text ++ get_or text index 0 ∷ [] = take_more text index 0 within in (
      λ all.
          let parted = subst (AllByRecursion P) more all in
          (all_front P (take index text) (get_or text index 0 ∷ []) parted, (all_back P (take index text) (get_or text index 0 ∷ []) parted).0),
      λ (front, last). subst (AllByRecursion P) (sym more) (all-append P (take index text) (get_or text index 0 ∷ []) front (last, tt)),
    )
