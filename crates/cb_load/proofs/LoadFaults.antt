-- Counts of faults in calls that follow one another.
use Rattle.std.proofs.Common.{◌≡◌, ℕ, ◌-◌, ◌^◌, ◌<◌, ◌≤◌, IsErrOf, Ok, arith}
use Rattle.cb_io.specs.Faults.{CountsFaults}
use Rattle.cb_link.specs.declared.refusal.Refusal.{Refusal}

pub no_fault : (count : ℕ) → CountsFaults count count ⊥
no_fault count = record { never_falls = omega arith; exact = λ below. (λ no. absurd no, λ less. absurd (omega arith)) }

pub fault_then : (before between now : ℕ) {Failed : Type 0} → CountsFaults before between ⊥ → CountsFaults between now Failed → CountsFaults before now Failed
fault_then before between now {Failed} first next =
    let rises : between ≤ now = next.never_falls in
    let rose : before ≤ between = first.never_falls in
    record {
      never_falls = omega arith;
      exact = λ below.
          let still : before ≡ between = same below in
          let fits : between < 2 ^ 64 - 1 = omega arith in (
            λ failed. let later : between < now = (next.exact fits).0 failed in omega arith,
            λ less. let later : between < now = omega arith in (next.exact fits).1 later,
          );
    } where
      same : before < 2 ^ 64 - 1 → before ≡ between
      same below =
          let rose : before ≤ between = first.never_falls in
          let not_more : before < between → ⊥ = (first.exact below).1 in
          omega (arith, not_more)

-- what failed, in other words
pub fault_as : (before now : ℕ) {Failed Also : Type 0} → CountsFaults before now Failed → (Failed → Also) → (Also → Failed) → CountsFaults before now Also
fault_as before now counts on back = record {
  never_falls = counts.never_falls;
  exact = λ below. (λ also. (counts.exact below).0 (back also), λ less. on ((counts.exact below).1 less));
}

-- a call that gave something didn't fail
pub fault_of_ok : {Given : Type 0} (before now : ℕ) (given : Given) (refusal : Refusal) → CountsFaults before now (IsErrOf (Ok given) refusal) → CountsFaults before now ⊥
fault_of_ok {Given} before now given refusal counts = fault_as before now counts (no_error given refusal) (λ none. absurd none) where
  no_error : (given : Given) (refusal : Refusal) → IsErrOf (Ok given) refusal → ⊥
  no_error given refusal is = cc
