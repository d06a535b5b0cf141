-- What a sink takes.
use Rattle.std.specs.Prelude.{◌≡◌, ℕ, ◌<◌, List, ◌++◌, length, Option}
use Rattle.std.specs.Io.KnownBytes.{Appends}

-- a write of a non-empty piece takes at least one byte
abbrev pub TakesSome : List ℕ → ℕ → Type 0
TakesSome bytes count = 0 < length bytes → 0 < count

-- front is a beginning of bytes, and less than the whole
pub record IsProperPrefix (front bytes : List ℕ) : Type 0 where
  pub rest : List ℕ
  pub whole : bytes ≡ front ++ rest
  pub proper : 0 < length rest

-- known bytes grow by a proper prefix of these. Where none are known, it says only that these are not empty
abbrev pub AppendsProperPrefix : Option (List ℕ) → Option (List ℕ) → List ℕ → Type 0
AppendsProperPrefix old new bytes = (front : List ℕ) × Appends old new front × IsProperPrefix front bytes
