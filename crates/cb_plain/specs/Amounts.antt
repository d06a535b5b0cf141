-- The amounts of a flow.
use Rattle.std.specs.Prelude.{ℕ, List}

-- what flows from the source to each part, from each part to the sink, and along each edge
pub record Amounts : Type 0 where
  pub sources : List ℕ
  pub sinks : List ℕ
  pub arcs : List ℕ
