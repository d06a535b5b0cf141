-- Offsets to places that come nearer.
use Rattle.std.proofs.Common.{arith, ℕ, ◌≤◌, pos, ◌-ℤ◌}
use Rattle.std.specs.Prelude.{FitsSigned}
use Rattle.std.specs.Int.{Width}
use Rattle.std.proofs.lemmas.Int.{ints}

pub nearer : (w : Width) (pc near far : ℕ) → pc ≤ near → near ≤ far → FitsSigned w (pos far -ℤ pos pc) → FitsSigned w (pos near -ℤ pos pc)
nearer w pc near far ahead below fits = omega (arith, ints, ahead, below, fits)
