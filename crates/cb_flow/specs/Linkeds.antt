-- The edges of a network as they are kept.
use Rattle.std.specs.Prelude.{ℕ, ◌≤◌, List, length}
use Rattle.cb_dag.specs.Parts.{AreWithin, most_edges, most_parts}
use Rattle.cb_dag.specs.Places.{AreEdgesAt}
use Rattle.cb_dag.specs.declared.ends.End.TheVariants.{Finish, Start}

pub record IsKept (parts : ℕ) (edges : List (ℕ × ℕ)) (out_of into : List (List ℕ)) : Type 0 where
  pub few_parts : parts ≤ most_parts
  pub few_edges : length edges ≤ most_edges
  pub within : AreWithin parts edges
  pub leaving : AreEdgesAt Start parts edges out_of
  pub entering : AreEdgesAt Finish parts edges into
