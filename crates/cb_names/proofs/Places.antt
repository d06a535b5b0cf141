-- The first place at which a unit passes a test.
use Rattle.std.proofs.Common.{◌≡◌, ℕ, zero, suc, ◌+◌, ◌<◌, ◌≤◌, Bool, true, false, List, [], ◌∷◌, ◌++◌, length, get_or, take, drop, replicate, Some, refl, sym, ◌∙◌, ap, add-one, arith, length-append, take-append-drop, ltb}
use Rattle.std.specs.List.{AllByRecursion, position, position_or_len}
use Rattle.std.proofs.lemmas.Bool.{lt-ltb}
use Rattle.std.proofs.Math.Seq.{drop-cons}

before : (test : ℕ → Bool) (front : List ℕ) (unit : ℕ) (behind : List ℕ) → AllByRecursion (λ unit. test unit ≡ false) front → test unit ≡ true → position_or_len test (front ++ unit ∷ behind) ≡ length front
before test [] unit behind fail passes = rw passes refl
before test (first ∷ front) unit behind fail passes =
    let more = before test front unit behind fail.1 passes in
    rw fail.0 (omega (arith, more))

-- where units that fail stand before one that passes
pub first_place : (test : ℕ → Bool) (text front : List ℕ) (unit : ℕ) (behind : List ℕ) → AllByRecursion (λ unit. test unit ≡ false) front → test unit ≡ true → text ≡ front ++ unit ∷ behind → position test text ≡ Some (length front)
first_place test text front unit behind fail passes is =
    let place = before test front unit behind fail passes in
    let within : ltb (length front) (length (front ++ unit ∷ behind)) ≡ true = lt-ltb _ _ (omega (arith, length-append front (unit ∷ behind))) in
    rw (is, place, within) refl

-- what stands before a place, at it and behind it
pub split_at : (text : List ℕ) (place : ℕ) → place < length text → text ≡ take place text ++ get_or text place 0 ∷ drop (place + 1) text
split_at text place within =
    let front : drop place text ≡ get_or text place 0 ∷ drop (place + 1) text = rw add-one (drop-cons text place 0 within) in
    sym (take-append-drop place text) ∙ ap (λ back. take place text ++ back) front

-- so many equal units stand at the front
pub repeated : (unit n : ℕ) (text : List ℕ) → n ≤ length text → ((k : ℕ) → k < n → get_or text k 0 ≡ unit) → text ≡ replicate n unit ++ drop n text
repeated unit zero text within equal = refl
repeated unit (suc n) [] within equal = absurd (omega arith)
repeated unit (suc n) (first ∷ text) within equal =
    let is : first ≡ unit = equal 0 (omega arith) in
    let more : text ≡ replicate n unit ++ drop n text = repeated unit n text (omega arith) (λ k below. equal (suc k) (omega arith)) in
    cc
