-- Comparing the members of a list in pairs.
use Rattle.std.proofs.Common.{◌≢◌, ℕ, zero, suc, List, [], ◌∷◌, map, arith}
use Rattle.std.proofs.lemmas.List.Kept.{AllPairs-cons}
use Rattle.std.specs.List.{All, AllByRecursion, AllPairs}
use Rattle.cb_text.specs.declared.constant.Constant.{Constant}
use Rattle.cb_classfile.specs.Class.{Differ, signature}

-- what holds of each element, by recursion, holds of what each is made to
all_made : {X Y Z : Type 0} (P : Z → Type 0) (make : Y → Z) (of : X → Y) (items : List X) → AllByRecursion (λ item. P (make (of item))) items → All P (map make (map of items))
all_made P make of [] all k d within = absurd (omega (arith, within))
all_made P make of (item ∷ items) all zero d within = all.0
all_made P make of (item ∷ items) all (suc k) d within = all_made P make of items all.1 k d (omega (arith, within))

made_all : {X Y Z : Type 0} (P : Z → Type 0) (make : Y → Z) (of : X → Y) (items : List X) → All P (map make (map of items)) → AllByRecursion (λ item. P (make (of item))) items
made_all P make of [] all = tt
made_all P make of (item ∷ items) all = (all zero (make (of item)) (omega arith), made_all P make of items (λ k d within. all (suc k) d (omega (arith, within))))

-- the first is apart from each other, and the others are in pairs, exactly where all are
uncons : {X : Type 0} (R : X → X → Type 0) (x : X) (xs : List X) → AllPairs R (x ∷ xs) → All (R x) xs × AllPairs R xs
uncons R x xs pairs = (
  λ k d within. pairs zero (suc k) d (omega arith) (omega (arith, within)),
  λ i j d above within. pairs (suc i) (suc j) d (omega (arith, above)) (omega (arith, within)),
)

-- a member differs from each of the others
abbrev pub DiffersFrom : {M : Type 0} → (M → ℕ × ℕ) → List Constant → M → List M → Type 0
DiffersFrom indices pool first behind =
    AllByRecursion (λ other. signature pool (indices first).0 (indices first).1 ≢ signature pool (indices other).0 (indices other).1) behind

pub differ_more : {M : Type 0} (indices : M → ℕ × ℕ) (pool : List Constant) (first : M) (behind : List M) → DiffersFrom indices pool first behind → Differ pool (map indices behind) → Differ pool (map indices (first ∷ behind))
differ_more indices pool first behind apart differ =
    AllPairs-cons (λ one other. one ≢ other) _ _ (all_made (λ other. signature pool (indices first).0 (indices first).1 ≢ other) (λ (member : ℕ × ℕ). signature pool member.0 member.1) indices behind apart) differ

pub differ_less : {M : Type 0} (indices : M → ℕ × ℕ) (pool : List Constant) (first : M) (behind : List M) → Differ pool (map indices (first ∷ behind)) → DiffersFrom indices pool first behind × Differ pool (map indices behind)
differ_less indices pool first behind differ =
    let (apart, others) = uncons (λ one other. one ≢ other) _ _ differ in
    (made_all (λ other. signature pool (indices first).0 (indices first).1 ≢ other) (λ (member : ℕ × ℕ). signature pool member.0 member.1) indices behind apart, others)
