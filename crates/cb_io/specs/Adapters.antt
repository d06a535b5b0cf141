-- What contracts see of the adapters.
use Rattle.std.specs.Prelude.{ℕ}

-- the reader or writer inside, and how many calls have failed
pub record Counted (Inner : Type 0) : Type 0 where
  pub inner : Inner
  pub faults : ℕ
