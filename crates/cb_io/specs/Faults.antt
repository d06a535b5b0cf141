-- The count of faults that each outside object keeps.
use Rattle.std.specs.Prelude.{ℕ, ◌-◌, ◌^◌, ◌<◌, ◌≤◌, ◌↔◌}

-- The count never falls. Below the end of its type it rises in a call exactly where the call failed.
pub record CountsFaults (before now : ℕ) (failed : Type 0) : Type 0 where
  pub never_falls : before ≤ now
  pub exact : before < 2 ^ 64 - 1 → (failed ↔ (before < now))
