-- The pool at the front of what stands behind the version.
use Rattle.std.proofs.Common.{◌≡◌, ℕ, ◌-◌, List, ◌++◌, length, take, drop, refl, sym, ◌∙◌, ap, subst, arith, length-append}
use Rattle.std.proofs.Math.Seq.{drop-append_seam}
use Rattle.std.proofs.lemmas.List.{take_all}
use Rattle.cb_text.specs.declared.constant.Constant.{Constant}
use Rattle.cb_text.specs.Pool.{SpellsPool, BeginsWithPool}
use Rattle.cb_classfile.specs.Reading.{IsFront}
use Rattle.cb_classfile.specs.Tables.{BeginsWith}
use Rattle.cb_classfile.proofs.OneClass.{exact_pool}
use Rattle.cb_classfile.proofs.OneItem.{front}

pub pool_begins : (bytes : List ℕ) (pool : List Constant) (rest : List ℕ) (begins : BeginsWith SpellsPool bytes pool rest) → BeginsWithPool bytes pool (length begins.0)
pool_begins bytes pool rest (front, spelled, split) = (front, rest, spelled, split, refl)

-- what stands behind the pool is what is left of the bytes
behind_pool : (bytes front rest : List ℕ) (end : ℕ) → bytes ≡ front ++ rest → end ≡ length front → rest ≡ take (length bytes - end) (drop end bytes)
behind_pool bytes front rest end split is =
    let left : drop end bytes ≡ rest = rw (is, split) (drop-append_seam front rest) in
    sym (ap (take (length bytes - end)) left ∙ take_all (length bytes - end) rest (omega (arith, is, ap length split, length-append front rest)))

pub pool_found : {bytes : List ℕ} {pool : List Constant} {end : ℕ} → BeginsWithPool bytes pool end → IsFront SpellsPool bytes pool (take (length bytes - end) (drop end bytes))
pool_found {bytes} {pool} {end} (first, rest, spelled, split, is) =
    subst (IsFront SpellsPool bytes pool) (behind_pool bytes first rest end split is) (front exact_pool (first, spelled, split))
