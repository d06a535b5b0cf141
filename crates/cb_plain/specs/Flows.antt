-- Flows with one amount changed.
use Rattle.std.specs.Prelude.{ℕ, replicate, slice_set}
use Rattle.cb_plain.specs.Amounts.{Amounts}

abbrev pub no_flow : (parts arcs : ℕ) → Amounts
no_flow parts arcs = record { sources = replicate parts 0; sinks = replicate parts 0; arcs = replicate arcs 0 }

abbrev pub with_source : Amounts → (part amount : ℕ) → Amounts
with_source flow part amount = record { sources = slice_set flow.sources part amount; sinks = flow.sinks; arcs = flow.arcs }

abbrev pub with_sink : Amounts → (part amount : ℕ) → Amounts
with_sink flow part amount = record { sources = flow.sources; sinks = slice_set flow.sinks part amount; arcs = flow.arcs }

abbrev pub with_arc : Amounts → (arc amount : ℕ) → Amounts
with_arc flow arc amount = record { sources = flow.sources; sinks = flow.sinks; arcs = slice_set flow.arcs arc amount }
