-- Graphs whose nodes all lead to one and back.
use Rattle.std.proofs.Common.{◌≡◌, ◌∙◌, ap, refl, sym, inl, inr, arith, ℕ, ◌<◌, Bool, List, [], ◌∷◌, length, get_or, replicate}
use Rattle.std.proofs.lemmas.Bool.{cases_lt}
use Rattle.std.proofs.lemmas.List.{ext_get_or, get_or-replicate, length-replicate}
use Rattle.cb_dag.specs.Graphs.{Along, HasEdge, Here, IsSquare, Mutual}
use Rattle.cb_dag.specs.Parts.{AreParts, Condensed, HasManyEdges, HasManyParts, HasPair, IsCondensed, Joins}

-- the first nodes lead to node 0 and back
pub record AreJoined (nodes count : ℕ) (rows : List (List Bool)) : Type 0 where
  pub nodes_are : length rows ≡ nodes
  pub square : IsSquare rows
  pub there : (node : ℕ) → node < count → HasEdge rows node 0
  pub back : (node : ℕ) → node < count → HasEdge rows 0 node

same_graph : (parts count : ℕ) (part_of all : List ℕ) (edges none : List (ℕ × ℕ)) → parts ≡ count → part_of ≡ all → edges ≡ none
    → ◌≡◌ {A = Condensed} (record { parts = parts; part_of = part_of; edges = edges }) (record { parts = count; part_of = all; edges = none })
same_graph parts count part_of all edges none one two three = cc

-- where all nodes do, each leads to each other: they are one part, without edges
module _ (sites : ℕ) (rows : List (List Bool)) (some : 0 < sites) (each : length rows ≡ sites) (there : (node : ℕ) → node < sites → HasEdge rows node 0) (back : (node : ℕ) → node < sites → HasEdge rows 0 node) where
  mutual_all : (a b : ℕ) → a < length rows → b < length rows → Mutual (HasEdge rows) a b
  mutual_all a b low also = record {
    there = Along {b = 0} (Along Here (there a (omega (arith, low, each)))) (back b (omega (arith, also, each)));
    back = Along {b = 0} (Along Here (there b (omega (arith, also, each)))) (back a (omega (arith, low, each)));
  }

  module _ (parts : ℕ) (part_of : List ℕ) (are : AreParts (HasEdge rows) (length rows) parts part_of) where
    in_first : (a : ℕ) → a < length rows → get_or part_of a 0 ≡ 0
    in_first a low =
        let below : get_or part_of 0 0 < parts = are.below 0 (omega (arith, some, each)) in
        let (node, within, is) = are.some 0 (omega (arith, below)) in
        are.alike a node low within (mutual_all a node low within) ∙ is

    one : parts ≡ 1
    one = elim (cases_lt 1 parts) [
      | inl more ↦ let (node, within, is) = are.some 1 more in let first = in_first node within in absurd (omega (arith, first, is))
      | inr few ↦ let below : get_or part_of 0 0 < parts = are.below 0 (omega (arith, some, each)) in omega (arith, few, below)
    ]

    all : part_of ≡ replicate (length rows) 0
    all =
        ext_get_or 0 part_of (replicate (length rows) 0) (are.each ∙ sym (length-replicate (length rows) 0))
        (λ i low. let within : i < length rows = omega (arith, low, are.each) in in_first i within ∙ sym (get_or-replicate (length rows) i 0 0 within))

    no_edges : (edges : List (ℕ × ℕ)) → ((p q : ℕ) → HasPair edges p q → Joins (HasEdge rows) (length rows) part_of p q) → edges ≡ []
    no_edges [] listed = refl
    no_edges (edge ∷ edges) listed =
        let joins = listed edge.0 edge.1 (0, omega arith, refl) in
        absurd (joins.differ (sym joins.in_from ∙ in_first joins.from joins.from_within ∙ sym (in_first joins.to joins.to_within) ∙ joins.in_to))

  pub is_one : (graph : Condensed) → IsCondensed rows graph → graph ≡ record { parts = 1; part_of = replicate sites 0; edges = [] }
  is_one graph is =
      same_graph graph.parts 1 graph.part_of (replicate sites 0) graph.edges [] (one graph.parts graph.part_of is.parts)
      (all graph.parts graph.part_of is.parts ∙ ap (λ sites. replicate sites 0) each) (no_edges graph.parts graph.part_of is.parts graph.edges is.edges.listed)

  -- so there are no more parts and edges than there may be
  pub few_parts : HasManyParts rows → ⊥
  few_parts fault = let few = one fault.parts fault.part_of fault.are in omega (arith, few, fault.many)

  pub few_edges : HasManyEdges rows → ⊥
  few_edges fault = let none = ap length (no_edges fault.parts fault.part_of fault.are fault.edges fault.listed) in omega (arith, none, fault.many)
