-- What crates above may cite: numbers and pools that are spelled at the front of some bytes are read there, and a pool
-- that grows keeps what stood in it.
use Rattle.std.proofs.Common.{◌≡◌, ℕ, zero, suc, ◌+◌, List, [], ◌∷◌, ◌++◌, length, Some, refl, add-one}
use Rattle.std.specs.Prelude.{slice_get}
use Rattle.cb_text.specs.declared.constant.Constant.{Constant}
use Rattle.cb_text.specs.declared.constant.Constant.TheVariants.{Long, Double}
use Rattle.cb_text.specs.Pool.{BeginsWithPool, IsPool, SpellsPool, constant_at, pool_bytes, with_gap}
pub use Rattle.cb_text.proofs.BigEndian.{IsWidth, width_16, width_32, width_64, number_again}
pub use Rattle.cb_text.proofs.OnePool.{one_pool_front}

-- the constants of a pool are spelled by its bytes, which begin with it whatever stands behind them
pub pool_spelled : (constants : List Constant) → IsPool constants → SpellsPool (pool_bytes constants) constants
pool_spelled constants pool = pool

pub pool_begins : (constants : List Constant) (rest : List ℕ) → IsPool constants → BeginsWithPool (pool_bytes constants ++ rest) constants (length (pool_bytes constants))
pool_begins constants rest pool = (pool_bytes constants, rest, pool, refl, refl)

-- what stands at an index still stands there where more is added
kept : {X : Type 0} (front back : List X) (i : ℕ) (item : X) → slice_get front i ≡ Some item → slice_get (front ++ back) i ≡ Some item
kept [] back i item here = absurd cc
kept (first ∷ front) back zero item here = here
kept (first ∷ front) back (suc i) item here = kept front back i item here

pub kept_at : (front back : List Constant) (index : ℕ) (constant : Constant) → constant_at front index ≡ Some constant → constant_at (front ++ back) index ≡ Some constant
kept_at front back zero constant here = absurd cc
kept_at front back (suc before) constant here = kept front back before constant here

-- a constant that is added stands at the index that follows
added : {X : Type 0} (front back : List X) (item : X) → slice_get (front ++ item ∷ back) (length front) ≡ Some item
added [] back item = refl
added (first ∷ front) back item = added front back item

pub added_at : (front : List Constant) (constant : Constant) → constant_at (front ++ with_gap constant) (length front + 1) ≡ Some constant
added_at front (Long number) = rw add-one (added front _ (Long number))
added_at front (Double bits) = rw add-one (added front _ (Double bits))
added_at front constant = rw add-one (added front [] constant)
