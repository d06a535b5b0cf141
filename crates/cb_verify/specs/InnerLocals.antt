-- Up to where something is known of local variables: inside the crate.
use Rattle.std.specs.Prelude.{◌≡◌, ℕ, ◌-◌, ◌≤◌, List, drop, length, replicate}
use Rattle.cb_verify.specs.declared.verification_type.VerificationType.{VerificationType}
use Rattle.cb_verify.specs.declared.verification_type.VerificationType.TheVariants.{Top}

-- from a number on they all are top
abbrev pub IsKnownTo : ℕ → List VerificationType → Type 0
IsKnownTo known locals = (known ≤ length locals) × (drop known locals ≡ replicate (length locals - known) Top)
