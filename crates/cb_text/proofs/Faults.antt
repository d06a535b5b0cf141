-- The faults of readers, handed on, and when bytes are no pool.
use Rattle.std.proofs.Common.{◌≡◌, ℕ, List, Ok, Err, Result, sym, subst}
use Rattle.std.specs.Prelude.{◌↔◌, IsErrOf, MatchResult}
use Rattle.std.specs.Result.{IsErr, IsErrAnd}
use Rattle.std.proofs.lemmas.Bool.{false≢true}
use Rattle.cb_text.specs.declared.constant.Constant.{Constant}
use Rattle.cb_text.specs.declared.pool_fault.PoolFault.{PoolFault}
use Rattle.cb_text.specs.declared.pool_fault.PoolFault.TheVariants.{BadPool, OutOfMemory}

-- what holds of a fault is what is asked of the result that hands it on
pub handed : {X Fault : Type 0} (Is : X → Type 0) (IsNot : Fault → Type 0) (result : Result X Fault) (fault : Fault) → IsErr result × IsErrAnd result (λ told. told ≡ fault) → IsNot fault → MatchResult result Is IsNot
handed Is IsNot (Ok item) fault on is = absurd (false≢true on.0)
handed Is IsNot (Err told) fault on is = subst IsNot (sym on.1) is

-- a fault that is want of memory where there is a pool is a bad pool exactly where there is none
pub bad_exactly : {T : Type 0} (IsRead : List Constant → ℕ → Type 0) (fault : PoolFault) (result : Result T PoolFault) → result ≡ Err fault → ((constants : List Constant) (end : ℕ) → IsRead constants end → fault ≡ OutOfMemory) → IsErrOf result BadPool ↔ ((¬ IsErrOf result OutOfMemory) × ((constants : List Constant) (end : ℕ) → IsRead constants end → ⊥))
bad_exactly IsRead BadPool result is only = (λ bad. (λ memory. cc, λ constants end read. let same = only constants end read in cc), λ none. is)
bad_exactly IsRead OutOfMemory result is only = (λ bad. absurd cc, λ none. absurd (none.0 is))
