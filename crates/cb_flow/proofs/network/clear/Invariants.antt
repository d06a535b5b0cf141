use Rattle.std.proofs.Common.{◌≡◌, length, take, replicate}
use Rattle.cb_flow.proofs.network.clear.Given as goal

abbrev pub invariant-loop-part : goal.invariant-loop-part
invariant-loop-part l =
    (length l.flow.sources ≡ l.parts) × (length l.flow.sinks ≡ l.parts) × (length l.flow.arcs ≡ l.edges)
    × (take l.part l.flow.sources ≡ replicate l.part 0) × (take l.part l.flow.sinks ≡ replicate l.part 0)

abbrev pub invariant-loop-edge : goal.invariant-loop-edge
invariant-loop-edge l =
    (l.flow.sources ≡ replicate l.parts 0) × (l.flow.sinks ≡ replicate l.parts 0) × (length l.flow.arcs ≡ l.edges) × (take l.edge l.flow.arcs ≡ replicate l.edge 0)
