-- Roots, with how many frames there may be.
use Rattle.std.specs.Prelude.{ℕ}
use Rattle.cb_plain.specs.State.{Roots}

pub record Limited : Type 0 where
  pub limit : ℕ
  pub roots : Roots

abbrev pub with_roots : Limited → Roots → Limited
with_roots held roots = record { limit = held.limit; roots = roots }
