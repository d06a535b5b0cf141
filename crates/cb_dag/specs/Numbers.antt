-- Parts that are numbered by their first nodes.
use Rattle.std.specs.Prelude.{◌≡◌, ℕ, ◌<◌, ◌≤◌, List, length, slice_index}
use Rattle.cb_dag.specs.Parts.{IsFirst}

-- nodes with roots have one number exactly where they have one root, and a first node has a greater number than all before it
pub record IsNumbered (roots : List ℕ) (nodes parts : ℕ) (part_of : List ℕ) : Type 0 where
  pub each : length part_of ≡ nodes
  pub same : (a b : ℕ) → a < nodes → b < nodes → slice_index part_of a ≡ slice_index part_of b → slice_index roots a ≡ slice_index roots b
  pub alike : (a b : ℕ) → a < nodes → b < nodes → slice_index roots a ≡ slice_index roots b → slice_index part_of a ≡ slice_index part_of b
  pub below : (a : ℕ) → a < nodes → slice_index part_of a < parts
  pub some : (p : ℕ) → p < parts → (a : ℕ) × (a < nodes) × (slice_index part_of a ≡ p)
  pub rise : (a b : ℕ) → a < b → b < nodes → IsFirst part_of b → slice_index part_of a < slice_index part_of b

-- the same of the nodes up to one, where those roots have a number that came up, and it is that of their nodes
pub record IsNumbering (roots : List ℕ) (nodes parts : ℕ) (numbers part_of : List ℕ) : Type 0 where
  pub numbered : IsNumbered roots nodes parts part_of
  pub each : length numbers ≡ length roots
  pub few : parts ≤ nodes
  pub given : (a : ℕ) → a < nodes → slice_index numbers (slice_index roots a) ≡ slice_index part_of a
  pub met : (root : ℕ) → root < length roots → slice_index numbers root < length roots → (a : ℕ) × (a < nodes) × (slice_index roots a ≡ root)
