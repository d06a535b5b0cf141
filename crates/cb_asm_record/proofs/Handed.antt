-- Why there is no record, handed on.
use Rattle.std.proofs.Common.{◌≡◌, Result, Ok, Err, sym, subst}
use Rattle.std.specs.Prelude.{MatchResult}
use Rattle.std.specs.Result.{IsErr, IsErrAnd}
use Rattle.std.proofs.lemmas.Bool.{false≢true}

-- the result is this fault, handed on
abbrev pub HandsOn : {Item Fault : Type 0} → Result Item Fault → Fault → Type 0
HandsOn result fault = IsErr result × IsErrAnd result (λ told. told ≡ fault)

-- so what holds of the fault is what is asked of the result
pub handed : {Item Fault : Type 0} (Is : Item → Type 0) (IsNot : Fault → Type 0) (result : Result Item Fault) (fault : Fault) → HandsOn result fault → IsNot fault → MatchResult result Is IsNot
handed Is IsNot (Ok item) fault on is = absurd (false≢true on.0)
handed Is IsNot (Err told) fault on is = subst IsNot (sym on.1) is
