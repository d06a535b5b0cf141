-- The digit by which the last line of a refusal tells which it is.
use Rattle.std.proofs.Common.{◌≡◌, ℕ, sym, ◌∙◌, slice_get, unwrap_or}
use Rattle.cb_runner.specs.declared.cause.Cause.TheVariants.{Returned, Refused}
use Rattle.cb_runner.specs.Ending.{Ending}

abbrev pub digit : Ending → ℕ
digit ending = unwrap_or (slice_get ending.err 7) 0

pub differ : (ending : Ending) (here there : ℕ) → digit ending ≡ here → digit ending ≡ there → (here ≡ there → ⊥) → ⊥
differ ending here there one other apart = apart (sym one ∙ other)

-- and what returned is none
pub returns_unrefused : (ending : Ending) → ending.cause ≡ Returned → ending.cause ≡ Refused → ⊥
returns_unrefused ending returns refuses = let no : Returned ≡ Refused = sym returns ∙ refuses in cc
