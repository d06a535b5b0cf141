-- Refusals that are handed on by `?`.
use Rattle.std.proofs.Common.{◌≡◌, IfErr, Result, Ok, Err, sym, subst}
use Rattle.std.specs.Result.{IsErr, IsErrAnd}
use Rattle.cb_link.specs.declared.refusal.Refusal.{Refusal}

-- a refusal that is handed on
pub handed : {Given : Type 0} (Is : Refusal → Type 0) (result : Result Given Refusal) (refusal : Refusal) → IsErr result × IsErrAnd result (λ told. told ≡ refusal) → Is refusal → IfErr result Is
handed Is (Ok given) refusal on is = tt
handed Is (Err told) refusal on is = subst Is (sym on.1) is

-- one that was told of another result is handed on
pub handed_from : {Given Gave : Type 0} (Is : Refusal → Type 0) (result : Result Given Refusal) (told : Result Gave Refusal) (refusal : Refusal) → IsErr result × IsErrAnd result (λ told. told ≡ refusal) → told ≡ Err refusal → IfErr told Is → IfErr result Is
handed_from Is result told refusal on was is = handed Is result refusal on (subst (λ told. IfErr told Is) was is)
