-- Parts and edges between them, of roots, numbers and lists.
use Rattle.std.proofs.Common.{◌≡◌, ◌≢◌, ◌∙◌, sym, refl, subst, inl, inr, arith, ℕ, ◌<◌, ◌≤◌, ◌⊎◌, Bool, List, length, get_or}
use Rattle.std.specs.List.{All}
use Rattle.std.proofs.lemmas.Bool.{cases_eq}
use Rattle.std.proofs.lemmas.List.Elements.{All-from_get_or, Contains-get_or}
use Rattle.cb_dag.specs.Graphs.{Along, HasEdge, Here, IsSquare, Leads, Mutual}
use Rattle.cb_dag.specs.Listing.{HasMoreEdges, IsListing, IsRowFault}
use Rattle.cb_dag.specs.Faults.{IsFault}
use Rattle.cb_dag.specs.declared.fault.DagFault.{DagFault}
use Rattle.cb_dag.specs.declared.fault.DagFault.TheVariants.{OutOfMemory, TooManyEdges, TooManyParts}
use Rattle.cb_dag.specs.Numbers.{IsNumbered}
use Rattle.cb_dag.specs.Parts.{AreEdges, AreParts, AreWithin, HasManyEdges, HasPair, IsAcyclic, IsCondensed, Joins, most_parts}
use Rattle.cb_dag.specs.Search.{AreRoots, IsCopy, part_place}
use Rattle.cb_dag.proofs.Copies.{copy_all}
use Rattle.cb_dag.proofs.Grids.{edge_from, edge_to}
use Rattle.cb_dag.proofs.Paths.{leads_on, one_edge}

pub are_parts : (rows : List (List Bool)) (roots : List ℕ) (parts : ℕ) (part_of : List ℕ) → AreRoots rows roots → All (λ root. root < length rows) roots
    → IsNumbered roots (length roots) parts part_of → AreParts (HasEdge rows) (length rows) parts part_of
are_parts rows roots parts part_of are within numbered = record {
  each = numbered.each ∙ are.each;
  together = λ a b low high same.
      let one : get_or roots a 0 ≡ get_or roots b 0 = numbered.same a b (omega (arith, low, are.each)) (omega (arith, high, are.each)) same in
      let from = are.own a low (rooted a low) in
      let to = are.own b high (rooted b high) in
      leads_on from.there (subst (λ n. Leads (HasEdge rows) n b) (sym one) to.back);
  alike = λ a b low high both. numbered.alike a b (omega (arith, low, are.each)) (omega (arith, high, are.each)) (sym (are.alike a b low high (rooted a low) both));
  below = λ a low. numbered.below a (omega (arith, low, are.each));
  some = λ p low. let found = numbered.some p low in (found.0, omega (arith, found.1, are.each), found.2);
  rise = λ a b order high first second. numbered.rise a b order (omega (arith, high, are.each)) second;
}
  where
    rooted : (a : ℕ) → a < length rows → get_or roots a 0 < length rows
    rooted a low = within a 0 (omega (arith, low, are.each))

module _ (rows joined : List (List Bool)) (parts : ℕ) (part_of : List ℕ) (square : IsSquare rows) (are : AreParts (HasEdge rows) (length rows) parts part_of)
    (copied : IsCopy rows joined parts (part_place part_of) (length rows) 0) where
  joins : (p q : ℕ) → p ≢ q → HasEdge joined p q → Joins (HasEdge rows) (length rows) part_of p q
  joins p q differ edge =
      let found = copied.listed p q edge in
      record {
        differ = differ;
        from = found.0;
        to = found.1;
        from_within = edge_from rows found.0 found.1 found.2;
        to_within = edge_to rows square found.0 found.1 found.2;
        in_from = sym found.3;
        in_to = sym found.4;
        edge = found.2;
      }

  joined_edge : (p q : ℕ) → Joins (HasEdge rows) (length rows) part_of p q → HasEdge joined p q
  joined_edge p q join =
      subst (λ n. HasEdge joined n q) join.in_from
      (subst (λ n. HasEdge joined (get_or part_of join.from 0) n) join.in_to
      (copy_all rows joined parts (part_place part_of) (length rows) (omega arith) copied join.from join.to join.edge))

  pub are_edges : (edges : List (ℕ × ℕ)) → IsListing joined edges (length joined) 0 → AreEdges (HasEdge rows) (length rows) part_of edges
  are_edges edges listing = record {
    listed = λ p q there. let was = listing.listed p q there in joins p q was.0 was.1;
    all = λ p q join. let edge = joined_edge p q join in listing.all p q join.differ edge (inl (edge_from joined p q edge));
    ascending = listing.ascending;
  }

  pub ends_within : (edges : List (ℕ × ℕ)) → IsListing joined edges (length joined) 0 → AreWithin parts edges
  ends_within edges listing = All-from_get_or (λ edge. (edge.0 < parts) × (edge.1 < parts)) edges (0, 0)
      (λ i within.
      let pair = get_or edges i (0, 0) in
      let edge = (listing.listed pair.0 pair.1 (Contains-get_or edges i (0, 0) within)).1 in
      (omega (arith, edge_from joined pair.0 pair.1 edge, copied.nodes), omega (arith, edge_to joined copied.square pair.0 pair.1 edge, copied.nodes)))

  pub many_edges : parts ≤ most_parts → HasMoreEdges joined → HasManyEdges rows
  many_edges few more = record {
    parts = parts;
    part_of = part_of;
    are = are;
    few = few;
    edges = more.edges;
    ascending = more.ascending;
    listed = λ p q there. let was = more.listed p q there in joins p q was.0 was.1;
    many = more.many;
  }

  -- a path between parts is one between their nodes
  between : (edges : List (ℕ × ℕ)) → AreEdges (HasEdge rows) (length rows) part_of edges → (p q : ℕ) → Leads (HasPair edges) p q
      → (p ≡ q) ⊎ ((a b : ℕ) → a < length rows → b < length rows → get_or part_of a 0 ≡ p → get_or part_of b 0 ≡ q → Leads (HasEdge rows) a b)
  between edges exact p q Here = inl refl
  between edges exact p q (Along {b = r} path pair) =
      let join = exact.listed r q pair in
      inr (λ a b low high in_p in_q.
      let last : Leads (HasEdge rows) join.to b = are.together join.to b join.to_within high (join.in_to ∙ sym in_q) in
      let step : Leads (HasEdge rows) join.from b = leads_on (one_edge join.edge) last in
      elim (between edges exact p r path) [
        | inl same ↦ leads_on (are.together a join.from low join.from_within (in_p ∙ same ∙ sym join.in_from)) step
        | inr on ↦ leads_on (on a join.from low join.from_within in_p join.in_from) step
      ])

  acyclic : (edges : List (ℕ × ℕ)) → AreEdges (HasEdge rows) (length rows) part_of edges → AreWithin parts edges → IsAcyclic (HasPair edges)
  acyclic edges exact within = record { single = single }
    where
      single : (p q : ℕ) → Mutual (HasPair edges) p q → p ≡ q
      single p q both = elim (between edges exact p q both.there) [
        | inl same ↦ same
        | inr there ↦ elim (between edges exact q p both.back) [
          | inl same ↦ sym same
          | inr back ↦ elim (cases_eq p q) [
            | inl same ↦ same
            | inr apart ↦
                let low : p < parts = end_low p q apart both.there both.back in
                let high : q < parts = end_low q p (λ same. apart (sym same)) both.back both.there in
                let one = are.some p low in
                let two = are.some q high in
                sym one.2 ∙ are.alike one.0 two.0 one.1 two.1 (record { there = there one.0 two.0 one.1 two.1 one.2 two.2; back = back two.0 one.0 two.1 one.1 two.2 one.2 }) ∙ two.2
          ]
        ]
      ]
        where
          -- the end of a path that has edges is a part
          reached : (a b : ℕ) → Leads (HasPair edges) a b → (a ≡ b) ⊎ (b < parts)
          reached a b Here = inl refl
          reached a b (Along {b = r} path pair) = inr (subst (λ (e : ℕ × ℕ). e.1 < parts) pair.2 (within pair.0 (r, b) pair.1).1)

          end_low : (a b : ℕ) → a ≢ b → Leads (HasPair edges) a b → Leads (HasPair edges) b a → a < parts
          end_low a b apart on back = elim (reached b a back) [ inl same ↦ absurd (apart (sym same)) | inr low ↦ low ]

  pub condensed : (edges : List (ℕ × ℕ)) → IsListing joined edges (length joined) 0 → IsCondensed rows (record { parts = parts; part_of = part_of; edges = edges })
  condensed edges listing = record {
    parts = are;
    edges = are_edges edges listing;
    acyclic = acyclic edges (are_edges edges listing) (ends_within edges listing);
  }

pub row_fault : (rows joined : List (List Bool)) (parts : ℕ) (part_of : List ℕ) → IsSquare rows → AreParts (HasEdge rows) (length rows) parts part_of
    → IsCopy rows joined parts (part_place part_of) (length rows) 0 → parts ≤ most_parts → (fault : DagFault) → IsRowFault joined fault → IsFault rows fault
row_fault rows joined parts part_of square are copied few TooManyParts row = absurd row
row_fault rows joined parts part_of square are copied few TooManyEdges row = many_edges rows joined parts part_of square are copied few row
row_fault rows joined parts part_of square are copied few OutOfMemory row = tt

-- the same of lists that were read
pub parts_seen : (rows : List (List Bool)) (roots seen : List ℕ) (parts : ℕ) (part_of : List ℕ) → AreRoots rows roots → All (λ root. root < length rows) roots → seen ≡ roots
    → IsNumbered seen (length seen) parts part_of → AreParts (HasEdge rows) (length rows) parts part_of
parts_seen rows roots seen parts part_of are within is numbered = are_parts rows roots parts part_of are within (subst (λ all. IsNumbered all (length all) parts part_of) is numbered)

pub copy_seen : (rows joined : List (List Bool)) (parts : ℕ) (part_of seen : List ℕ) → seen ≡ part_of → IsCopy rows joined parts (part_place seen) (length rows) 0
    → IsCopy rows joined parts (part_place part_of) (length rows) 0
copy_seen rows joined parts part_of seen is copied = subst (λ all. IsCopy rows joined parts (part_place all) (length rows) 0) is copied
