-- Why a program can't be verified.
use Rattle.std.specs.Prelude.{◌≡◌, ℕ, Some, option_map, slice_get}
use Rattle.cb_link.specs.Program.{Linked}
use Rattle.cb_verify.specs.declared.verifying.VerifyFault.{VerifyFault}
use Rattle.cb_verify.specs.declared.verifying.VerifyFault.TheVariants.{Unverified, OutOfMemory}
use Rattle.cb_verify.specs.Typed.{FailsFirst}

-- a method, which a class declares, is the first one with a place that fails, and this is the least one
pub record IsUnverified (program : Linked) (class method pc : ℕ) : Type 0 where
  pub declares : option_map (λ linked. linked.class) (slice_get program.methods method) ≡ Some class
  pub first : FailsFirst program method pc

-- what a fault says: want of memory is none of the program
abbrev pub Refuses : Linked → VerifyFault → Type 0
Refuses program (Unverified class method pc) = IsUnverified program class method pc
Refuses program OutOfMemory = Unit {0}
