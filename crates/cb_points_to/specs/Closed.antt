-- The least relation that is closed under inclusions.
use Rattle.std.specs.Prelude.{◌≡◌, ℕ, Bool, true, false, List, [], Some, slice_get, slice_index_or}
use Rattle.cb_points_to.specs.declared.inclusion.Inclusion.{Inclusion}
use Rattle.cb_points_to.specs.Inclusions.{Holds, Relation, System}

-- each inclusion holds
pub record IsClosed (system : System) (pts : Relation) : Type 0 where
  pub each : (i : ℕ) → (inclusion : Inclusion) → slice_get system.inclusions i ≡ Some inclusion → Holds system pts inclusion

-- and the relation is within each of which they all hold
pub record IsLeast (system : System) (pts : Relation) : Type 0 where
  pub closed : IsClosed system pts
  pub least : (other : Relation) → IsClosed system other → (node site : ℕ) → pts node site ≡ true → other node site ≡ true

-- the relation of rows of marks: whether a node's row marks a site
abbrev pub has : List (List Bool) → Relation
has rows node site = slice_index_or (slice_index_or rows node []) site false
