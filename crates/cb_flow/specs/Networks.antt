-- Networks: edges between parts, gains and a flow.
use Rattle.std.specs.Prelude.{◌≡◌, ℕ, ◌≤◌, ◌^◌, ℤ, Bool, List, length, slice_index, sum}
use Rattle.std.specs.List.{All}
use Rattle.cb_plain.specs.Amounts.{Amounts}
use Rattle.cb_dag.specs.Flows.{IsFlow, negative, positive}

-- edges between so many parts
pub record Linked : Type 0 where
  pub parts : ℕ
  pub edges : List (ℕ × ℕ)

-- what a network is seen as: the edges, what parts gain, a flow, and the parts that were reached when it was last solved
pub record Network : Type 0 where
  pub parts : ℕ
  pub edges : List (ℕ × ℕ)
  pub gains : List ℤ
  pub flow : Amounts
  pub reached : List Bool

-- gains of bounded size
pub record AreGains (parts : ℕ) (gains : List ℤ) : Type 0 where
  pub each : length gains ≡ parts
  pub high : All (λ gained. positive gained ≤ 2 ^ 28) gains
  pub low : All (λ gained. negative gained ≤ 2 ^ 28) gains

-- a flow through it of which no more flows along an edge than flows from the source
pub record IsHeld (gains : List ℤ) (edges : List (ℕ × ℕ)) (flow : Amounts) : Type 0 where
  pub is_flow : IsFlow gains edges flow
  pub arcs : (i : ℕ) → slice_index flow.arcs i ≤ sum flow.sources
