-- What a call of a source gives.
use Rattle.std.specs.Prelude.{◌≡◌, ◌<◌, ◌≤◌, ℕ, List, Option, length}
use Rattle.std.specs.Io.KnownBytes.{Consumes, IsAtEnd}

-- a call asked for so many bytes at most and was given these from the front of what is left, none only where it asked for none or at the end
pub record Gives (left : Option (List ℕ)) (most : ℕ) (bytes : List ℕ) (leaves : Option (List ℕ)) : Type 0 where
  pub few : length bytes ≤ most
  pub consumes : Consumes left leaves bytes
  pub end : length bytes ≡ 0 → 0 < most → IsAtEnd leaves
