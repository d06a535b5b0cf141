-- The order in which words are visited.
use Rattle.std.proofs.Common.{◌≡◌, ℕ, ◌+◌, ◌<◌, ◌≤◌, arith, inl, inr, ◌⊎◌}
use Rattle.std.proofs.lemmas.Bool.{cases_eq, cases_lt}
use Rattle.cb_slide.specs.Sliding.{IsBefore}

pub before_or : (other at part place : ℕ) → IsBefore other at part place ⊎ (IsBefore other at part place → ⊥)
before_or other at part place =
    elim (cases_lt other part) [
      | inl less ↦ inl (inl less)
      | inr past ↦ elim (cases_eq other part) [
        | inr differs ↦ inr (λ before. elim before [ inl less ↦ omega (arith, less, past) | inr both ↦ differs both.0 ])
        | inl same ↦ elim (cases_lt at place) [
          | inl less ↦ inl (inr (same, less))
          | inr behind ↦ inr (λ before. elim before [ inl less ↦ omega (arith, less, past) | inr both ↦ omega (arith, both.1, behind) ])
        ]
      ]
    ]

-- further on in the part, and on to the next one
pub before_on : (other at part place next : ℕ) → place ≤ next → IsBefore other at part place → IsBefore other at part next
before_on other at part place next on before = elim before [ inl less ↦ inl less | inr both ↦ inr (both.0, omega (arith, on, both.1)) ]

pub before_between : (other at part place next : ℕ) → IsBefore other at part next → (IsBefore other at part place → ⊥) → (other ≡ part) × (place ≤ at) × (at < next)
before_between other at part place next before not =
    elim before [
      | inl less ↦ absurd (not (inl less))
      | inr both ↦ elim (cases_lt at place) [
        | inl less ↦ absurd (not (inr (both.0, less)))
        | inr past ↦ (both.0, past, both.1)
      ]
    ]

pub before_part : (other at part place : ℕ) → IsBefore other at part place → IsBefore other at (part + 1) 0
before_part other at part place before = elim before [ inl less ↦ inl (omega (arith, less)) | inr both ↦ inl (omega (arith, both.0)) ]

pub before_last : (other at part place : ℕ) → IsBefore other at (part + 1) 0 → (IsBefore other at part place → ⊥) → (other ≡ part) × (place ≤ at)
before_last other at part place before not =
    elim before [
      | inr both ↦ absurd (omega (arith, both.1))
      | inl less ↦ elim (cases_lt other part) [
        | inl below ↦ absurd (not (inl below))
        | inr past ↦
            let same : other ≡ part = omega (arith, less, past) in
            elim (cases_lt at place) [
              | inl front ↦ absurd (not (inr (same, front)))
              | inr behind ↦ (same, behind)
            ]
      ]
    ]
