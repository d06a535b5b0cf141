-- The calls of an object in memory.
use Rattle.std.specs.Prelude.{ℕ, ◌+◌, ◌-◌, ◌^◌, min, Bool, true, false, List, Contains, refl}
use Rattle.std.specs.Coded.{Coded, code_by, coded×, coded_list, coded_ℕ}

-- the numbers of the calls that fail, counted from 1, how many calls there were, and how many failed
pub record CallLog : Type 0 where
  pub failing : List ℕ
  pub made : ℕ
  pub faults : ℕ

-- the code by which proofs tell two of them apart: the tuple of the fields
abbrev pub calls_code : Coded CallLog
calls_code =
    code_by (List ℕ × (ℕ × ℕ)) (coded× (coded_list coded_ℕ) (coded× coded_ℕ coded_ℕ)) (λ log. (log.failing, (log.made, log.faults))) (λ p. record { failing = p.0; made = p.1.0; faults = p.1.1 }) (λ _. refl)

-- no call so far
abbrev pub first_call : List ℕ → CallLog
first_call failing = record { failing = failing; made = 0; faults = 0 }

-- one more, or the same at the end of the count's type
abbrev pub counted : ℕ → ℕ
counted count = min (count + 1) (2 ^ 64 - 1)

-- the next call is one that fails
abbrev pub FailsNext : CallLog → Type 0
FailsNext log = Contains log.failing (counted log.made)

-- one more fault
abbrev pub after_fault : CallLog → CallLog
after_fault log = record log { faults = counted log.faults }

-- one more call, which failed or didn't
abbrev pub after_call : Bool → CallLog → CallLog
after_call true log = record log { made = counted log.made; faults = counted log.faults }
after_call false log = record log { made = counted log.made }
