-- Graphs of parts as they are kept.
use Rattle.std.specs.Prelude.{ℕ, ◌<◌, ◌≤◌, List, length}
use Rattle.std.specs.List.{All}
use Rattle.cb_dag.specs.Parts.{AreWithin, Condensed, most_edges, most_parts}
use Rattle.cb_dag.specs.Places.{AreEdgesAt}
use Rattle.cb_dag.specs.declared.ends.End.TheVariants.{Finish, Start}

-- what holds of the graph of the parts of any graph
pub record IsGraph (graph : Condensed) : Type 0 where
  pub few_parts : graph.parts ≤ most_parts
  pub few_edges : length graph.edges ≤ most_edges
  pub below : All (λ part. part < graph.parts) graph.part_of
  pub within : AreWithin graph.parts graph.edges

-- kept with the edges at each part
pub record IsStored (parts : ℕ) (part_of : List ℕ) (edges : List (ℕ × ℕ)) (out_of into : List (List ℕ)) : Type 0 where
  pub graph : IsGraph (record { parts = parts; part_of = part_of; edges = edges })
  pub leaving : AreEdgesAt Start parts edges out_of
  pub entering : AreEdgesAt Finish parts edges into
