-- What stands at the front of some bytes, and what a reader of fronts answers.
use Rattle.std.specs.Prelude.{◌≡◌, ℕ, List, ◌++◌, Option, Result, MatchOption, MatchResult}
use denote.Ref.{Bor}

-- an item stands at the front of the bytes, and rest behind it
abbrev pub BeginsWith : {Item : Type 0} → (List ℕ → Item → Type 0) → List ℕ → Item → List ℕ → Type 0
BeginsWith Spells bytes item rest = (first : List ℕ) × Spells first item × (bytes ≡ first ++ rest)

-- this item stands at the front of the bytes, with this behind it, and no other does
pub record IsFront {Item : Type 0} (Spells : List ℕ → Item → Type 0) (bytes : List ℕ) (item : Item) (rest : List ℕ) : Type 0 where
  pub found : BeginsWith Spells bytes item rest
  pub only : (other : Item) (behind : List ℕ) → BeginsWith Spells bytes other behind → (item ≡ other) × (rest ≡ behind)

-- where an item stands at the front of the bytes the fault is want of memory
abbrev pub IsFrontless : {Item Fault : Type 0} → Fault → (List ℕ → Item → Type 0) → List ℕ → Fault → Type 0
IsFrontless memory Spells bytes fault = (item : _) (rest : List ℕ) → BeginsWith Spells bytes item rest → fault ≡ memory

-- a reader of the front of some bytes gives the item there and what stands behind it, or none where none stands there
abbrev pub Reads : {Item : Type 0} → (List ℕ → Item → Type 0) → List ℕ → Option (Item × Bor (List ℕ)) → Type 0
Reads Spells bytes result =
    MatchOption result ((item : _) (rest : List ℕ) → ¬ BeginsWith Spells bytes item rest) (λ read. IsFront Spells bytes read.0 read.1.now)

-- a reader that takes memory: its fault is want of that, or none stands there
abbrev pub ReadsOr : {Item Fault : Type 0} → Fault → (List ℕ → Item → Type 0) → List ℕ → Result (Item × Bor (List ℕ)) Fault → Type 0
ReadsOr memory Spells bytes result =
    MatchResult result (λ read. IsFront Spells bytes read.0 read.1.now) (IsFrontless memory Spells bytes)
