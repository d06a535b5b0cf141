-- Keys in order, and a map that has the first place of each.
use Rattle.std.specs.Prelude.{◌≡◌, ℕ, ◌<◌, ◌^◌, Bool, List, length, position}
use Rattle.indexmap.specs.IndexMap.{IndexMap, get}

-- the map answers for every key what the list does
pub record HasFirsts {K S : Type 0} (eq : K → K → Bool) (keys : List K) (firsts : IndexMap K ℕ S) : Type 0 where
  pub few : length keys < 2 ^ 32
  pub found : (key : K) → get eq firsts key ≡ position (eq key) keys
