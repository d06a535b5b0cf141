-- Paths put together.
use Rattle.std.proofs.Common.{ℕ}
use Rattle.cb_dag.specs.Graphs.{Along, Here, Leads, Mutual}

pub leads_on : {Edge : ℕ → ℕ → Type 0} {a b c : ℕ} → Leads Edge a b → Leads Edge b c → Leads Edge a c
leads_on first Here = first
leads_on first (Along rest edge) = Along (leads_on first rest) edge

pub one_edge : {Edge : ℕ → ℕ → Type 0} {a b : ℕ} → Edge a b → Leads Edge a b
one_edge edge = Along Here edge

pub alone : {Edge : ℕ → ℕ → Type 0} (a : ℕ) → Mutual Edge a a
alone a = record { there = Here; back = Here }

pub turned : {Edge : ℕ → ℕ → Type 0} {a b : ℕ} → Mutual Edge a b → Mutual Edge b a
turned both = record { there = both.back; back = both.there }

pub both_on : {Edge : ℕ → ℕ → Type 0} {a b c : ℕ} → Mutual Edge a b → Mutual Edge b c → Mutual Edge a c
both_on one other = record { there = leads_on one.there other.there; back = leads_on other.back one.back }
