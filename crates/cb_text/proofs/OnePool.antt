-- At most one pool is a front of some bytes.
use Rattle.std.proofs.Common.{◌≡◌, ℕ, ◌+◌, ◌-◌, ◌^◌, ◌<◌, List, ◌++◌, length, refl, sym, ◌∙◌, ap, subst, arith, append_assoc, length-append}
use Rattle.std.specs.List.{AllByRecursion, flat_map}
use Rattle.cb_text.specs.declared.constant.Constant.{Constant}
use Rattle.cb_text.specs.Fronts.{BeginsWith}
use Rattle.cb_text.specs.Pool.{u2, constant_bytes, BeginsWithPool, HasIndices, IsPool, pool_bytes}
use Rattle.cb_text.specs.Reading.{SpellsConstants}
use Rattle.cb_text.proofs.BigEndian.{width_16, one_number}
use Rattle.cb_text.proofs.Pooling.{Stand, front_constants, one_way}

-- bytes that begin with a pool begin with its count, and behind that its constants stand
pub record PoolParts (bytes : List ℕ) (pool : List Constant) (end : ℕ) : Type 0 where
  pub behind : List ℕ
  pub rest : List ℕ
  pub counted : length pool + 1 < 2 ^ 16
  pub split : bytes ≡ u2 (length pool + 1) ++ behind
  pub constants : Stand behind pool rest
  pub indexed : AllByRecursion (HasIndices pool) pool
  pub ends : end + length rest ≡ length bytes

pub pool_parts : {bytes : List ℕ} {pool : List Constant} {end : ℕ} → BeginsWithPool bytes pool end → PoolParts bytes pool end
pool_parts {bytes} {pool} {end} (front, rest, spells, split, is) = record {
  behind = flat_map constant_bytes pool ++ rest;
  rest = rest;
  counted = spells.counted;
  split = split ∙ ap (λ front. front ++ rest) spells.spelled ∙ append_assoc (u2 (length pool + 1)) (flat_map constant_bytes pool) rest;
  constants = record { fit = spells.fit; laid_out = spells.laid_out; spelled = refl };
  indexed = spells.indexed;
  ends = omega (arith, is, ap length split, length-append front rest);
}

pub one_pool_front : (bytes : List ℕ) (one other : List Constant) (end last : ℕ) → BeginsWithPool bytes one end → BeginsWithPool bytes other last → (one ≡ other) × (end ≡ last)
one_pool_front bytes one other end last begins begins_too =
    let first = pool_parts begins in
    let second = pool_parts begins_too in
    let count = one_number width_16 first.counted second.counted (sym first.split ∙ second.split) in
    let same = one_way (omega (arith, count.0)) first.constants (subst (λ bytes. Stand bytes other second.rest) (sym count.1) second.constants) in
    (same.0, omega (arith, first.ends, second.ends, ap length same.1))

-- where the count was read, so many constants stand behind it, and their indices name what they should
pub pool_constants : {bytes left : List ℕ} {pool : List Constant} {end number count : ℕ} → number < 2 ^ 16 → bytes ≡ u2 number ++ left → count + 1 ≡ number → BeginsWithPool bytes pool end → (rest : List ℕ) × BeginsWith (SpellsConstants count) left pool rest × AllByRecursion (HasIndices pool) pool
pool_constants {bytes} {left} {pool} {end} {number} {count} fits split counted begins =
    let parts = pool_parts begins in
    let same = one_number width_16 parts.counted fits (sym parts.split ∙ split) in
    let stands = subst (λ bytes. Stand bytes pool parts.rest) same.1 parts.constants in
    (parts.rest, (front_constants (omega (arith, same.0, counted)) stands).found, parts.indexed)

-- and where these are found, so is a pool
pub pool_found : {bytes left rest : List ℕ} {pool : List Constant} {number count : ℕ} → number < 2 ^ 16 → bytes ≡ u2 number ++ left → count + 1 ≡ number → BeginsWith (SpellsConstants count) left pool rest → AllByRecursion (HasIndices pool) pool → IsPool pool × BeginsWithPool bytes pool (length bytes - length rest)
pool_found {bytes} {left} {rest} {pool} {number} {count} fits split counted (first, spelled, behind) indexed =
    let number_is : number ≡ length pool + 1 = omega (arith, counted, spelled.counted) in
    let is : bytes ≡ pool_bytes pool ++ rest = cc (split, number_is, behind, spelled.spelled) in
    let pool_is : IsPool pool = record { spelled = refl; counted = omega (arith, fits, number_is); fit = spelled.fit; laid_out = spelled.laid_out; indexed = indexed } in
    (pool_is, (pool_bytes pool, rest, pool_is, is, omega (arith, ap length is, length-append (pool_bytes pool) rest)))
