-- Calls of an input, one after the other, by what they gave. A source says what that is (`gave` of the trait `Source`), and code that works with
-- any source learns it from a call alone: so these definitions tell that the input was asked, also where it doesn't tell its bytes.
use Rattle.std.specs.Prelude.{◌≡◌, ◌<◌, ◌++◌, ◌⊎◌, ℕ, List, [], length}

-- calls that each gave some bytes, together these, and led from one source to another
pub data Calls {In : Type 0} (gave : In → ℕ → List ℕ → In → Type 0) (first : In) : List ℕ → In → Type 0 where
  NoCall : Calls gave first [] first
  Call : (bytes piece : List ℕ) (mid last : In) (most : ℕ) → Calls gave first bytes mid → gave mid most piece last → 0 < length piece
      → Calls gave first (bytes ++ piece) last

-- a call that asked for some bytes gave none
abbrev pub GaveNone : {In : Type 0} → (In → ℕ → List ℕ → In → Type 0) → In → In → Type 0
GaveNone gave source behind = (most : ℕ) × (0 < most) × gave source most [] behind

-- an input was asked for so many bytes: calls gave all of them, or fewer and then one gave none
pub record Asked {In : Type 0} (gave : In → ℕ → List ℕ → In → Type 0) (count : ℕ) (first last : In) (bytes : List ℕ) : Type 0 where
  pub mid : In
  pub calls : Calls gave first bytes mid
  pub ends : ((length bytes ≡ count) × (last ≡ mid)) ⊎ ((length bytes < count) × GaveNone gave mid last)
