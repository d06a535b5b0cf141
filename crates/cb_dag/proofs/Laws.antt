-- What crates above may cite.
use Rattle.std.proofs.Common.{◌≡◌, ◌∙◌, sym, ap, refl, subst, arith, ℕ, zero, suc, ◌+◌, ◌<◌, ◌≤◌, Bool, true, false, List, [], ◌∷◌, length, get_or, cond, eqb}
use Rattle.std.specs.Prelude.{ℤ}
use Rattle.std.specs.List.{All, Contains, sum_by}
use Rattle.std.proofs.lemmas.Bool.{eq-eqb, eqb-true}
use Rattle.std.proofs.lemmas.List.Elements.{All-cons, All-nil, All-weaker}
use Rattle.std.proofs.lemmas.List.Sums.{sum_by-cons}
use Rattle.cb_plain.specs.Amounts.{Amounts}
use Rattle.cb_dag.specs.Closed.{IsBest, NoneGainsMore}
use Rattle.cb_dag.specs.Flows.{IsCertificate, IsCutOff, IsFlow, IsGreatest, IsReachedSet, amount_at}
use Rattle.cb_dag.specs.Parts.{AreWithin}
use Rattle.cb_dag.specs.Places.{edges_at, end_of, places}
use Rattle.cb_dag.specs.declared.ends.End.{End}
use Rattle.cb_dag.proofs.Duality as duality

-- a certificate shows that no closed set gains more than its set, and that no flow is greater than its own
pub none_more : (gains : List ℤ) (edges : List (ℕ × ℕ)) (set : List Bool) (flow : Amounts) → AreWithin (length gains) edges → IsCertificate gains edges set flow → NoneGainsMore gains edges set
none_more = duality.shows_none_more

pub greatest : (gains : List ℤ) (edges : List (ℕ × ℕ)) (set : List Bool) (flow : Amounts) → AreWithin (length gains) edges → IsCertificate gains edges set flow → IsGreatest gains edges flow
greatest = duality.shows_greatest

-- the parts that more could flow to, where no more can flow to the sink, are the best set, which the flow shows
pub certificate : (gains : List ℤ) (edges : List (ℕ × ℕ)) (flow : Amounts) (set : List Bool) → AreWithin (length gains) edges → IsFlow gains edges flow → length set ≡ length gains
    → IsReachedSet gains edges flow set → IsCutOff gains edges flow → IsCertificate gains edges set flow
certificate gains edges flow set within is_flow each are cut = duality.reached_shown gains edges flow set within is_flow each are cut

pub best : (gains : List ℤ) (edges : List (ℕ × ℕ)) (flow : Amounts) (set : List Bool) → AreWithin (length gains) edges → IsFlow gains edges flow → length set ≡ length gains
    → IsReachedSet gains edges flow set → IsCutOff gains edges flow → IsBest gains edges set
best gains edges flow set within is_flow each are cut = duality.reached_best gains edges flow set within is_flow each are cut

-- the edges at a part: as many as there are at most, each of them one, and all of those that have it as their end
pub length-places : {X : Type 0} (test : X → Bool) (from : ℕ) (xs : List X) → length (places test from xs) ≤ length xs
length-places test from [] = omega arith
length-places test from (x ∷ xs) =
    let rest = length-places test (from + 1) xs in
    elim (test x) as (λ b. length (cond b (from ∷ places test (from + 1) xs) (places test (from + 1) xs)) ≤ length (x ∷ xs)) [ true ↦ omega (arith, rest) | false ↦ omega (arith, rest) ]

pub places_below : {X : Type 0} (test : X → Bool) (from : ℕ) (xs : List X) → All (λ place. place < from + length xs) (places test from xs)
places_below test from [] = All-nil (λ place. place < from + 0)
places_below test from (x ∷ xs) =
    let rest = All-weaker (λ place. place < (from + 1) + length xs) (λ place. place < from + length (x ∷ xs)) (λ place low. omega (arith, low)) (places test (from + 1) xs) (places_below test (from + 1) xs) in
    elim (test x) as (λ b. All (λ place. place < from + length (x ∷ xs)) (cond b (from ∷ places test (from + 1) xs) (places test (from + 1) xs))) [
      | true ↦ All-cons (λ place. place < from + length (x ∷ xs)) from (places test (from + 1) xs) (omega arith) rest
      | false ↦ rest
    ]

-- a place is among them where its item passes
places_from : {X : Type 0} (test : X → Bool) (from : ℕ) (xs : List X) → All (λ place. from ≤ place) (places test from xs)
places_from test from [] = All-nil (λ place. from ≤ place)
places_from test from (x ∷ xs) =
    let rest = All-weaker (λ place. from + 1 ≤ place) (λ place. from ≤ place) (λ place low. omega (arith, low)) (places test (from + 1) xs) (places_from test (from + 1) xs) in
    elim (test x) as (λ b. All (λ place. from ≤ place) (cond b (from ∷ places test (from + 1) xs) (places test (from + 1) xs))) [
      | true ↦ All-cons (λ place. from ≤ place) from (places test (from + 1) xs) (omega arith) rest
      | false ↦ rest
    ]

pass_more : {X : Type 0} (test : X → Bool) (from : ℕ) (x : X) (xs : List X) (d : X) → All (λ place. (i : ℕ) → place ≡ (from + 1) + i → test (get_or xs i d) ≡ true) (places test (from + 1) xs)
    → (k e : ℕ) → k < length (places test (from + 1) xs) → (i : ℕ) → get_or (places test (from + 1) xs) k e ≡ from + i → test (get_or (x ∷ xs) i d) ≡ true
pass_more test from x xs d rest k e low zero is = absurd (let past : from + 1 ≤ get_or (places test (from + 1) xs) k e = places_from test (from + 1) xs k e low in omega (arith, past, is))
pass_more test from x xs d rest k e low (suc i) is = rest k e low i (omega (arith, is))

pass_first : {X : Type 0} (test : X → Bool) (from : ℕ) (x : X) (xs : List X) (d : X) → test x ≡ true → (i : ℕ) → from ≡ from + i → test (get_or (x ∷ xs) i d) ≡ true
pass_first test from x xs d is zero same = is
pass_first test from x xs d is (suc i) same = absurd (omega (arith, same))

pass_either : {X : Type 0} (test : X → Bool) (from : ℕ) (x : X) (xs : List X) (d : X) (b : Bool) → test x ≡ b
    → All (λ place. (i : ℕ) → place ≡ from + i → test (get_or (x ∷ xs) i d) ≡ true) (places test (from + 1) xs)
    → All (λ place. (i : ℕ) → place ≡ from + i → test (get_or (x ∷ xs) i d) ≡ true) (cond b (from ∷ places test (from + 1) xs) (places test (from + 1) xs))
pass_either test from x xs d false is rest = rest
pass_either test from x xs d true is rest =
    All-cons (λ place. (i : ℕ) → place ≡ from + i → test (get_or (x ∷ xs) i d) ≡ true) from (places test (from + 1) xs) (pass_first test from x xs d is) rest

pub places_pass : {X : Type 0} (test : X → Bool) (from : ℕ) (xs : List X) (d : X) → All (λ place. (i : ℕ) → place ≡ from + i → test (get_or xs i d) ≡ true) (places test from xs)
places_pass test from [] d = All-nil (λ place. (i : ℕ) → place ≡ from + i → test (get_or [] i d) ≡ true)
places_pass test from (x ∷ xs) d = pass_either test from x xs d (test x) refl (λ k e low. pass_more test from x xs d (places_pass test (from + 1) xs d) k e low)

pub places_all : {X : Type 0} (test : X → Bool) (from : ℕ) (xs : List X) (d : X) (i : ℕ) → i < length xs → test (get_or xs i d) ≡ true → Contains (places test from xs) (from + i)
places_all test from [] d i low on = absurd (omega (arith, low))
places_all test from (x ∷ xs) d zero low on =
    subst (λ b. Contains (cond b (from ∷ places test (from + 1) xs) (places test (from + 1) xs)) (from + 0)) (sym on) (0, omega arith, omega arith)
places_all test from (x ∷ xs) d (suc i) low on =
    let found : Contains (places test (from + 1) xs) ((from + 1) + i) = places_all test (from + 1) xs d i (omega (arith, low)) on in
    let at : (from + 1) + i ≡ from + suc i = omega arith in
    let there : Contains (places test (from + 1) xs) (from + suc i) = subst (Contains (places test (from + 1) xs)) at found in
    elim (test x) as (λ b. Contains (cond b (from ∷ places test (from + 1) xs) (places test (from + 1) xs)) (from + suc i)) [
      | true ↦ (suc there.0, omega (arith, there.1), there.2)
      | false ↦ there
    ]

-- the edges at a part, by their numbers
pub edges_at_below : (end : End) (part : ℕ) (edges : List (ℕ × ℕ)) → All (λ i. i < length edges) (edges_at end part edges)
edges_at_below end part edges =
    All-weaker (λ i. i < 0 + length edges) (λ i. i < length edges) (λ i low. omega (arith, low)) (edges_at end part edges) (places_below (λ edge. eqb (end_of end edge) part) 0 edges)

pub length-edges_at : (end : End) (part : ℕ) (edges : List (ℕ × ℕ)) → length (edges_at end part edges) ≤ length edges
length-edges_at end part edges = length-places (λ edge. eqb (end_of end edge) part) 0 edges

pub edges_at_part : (end : End) (part : ℕ) (edges : List (ℕ × ℕ)) → All (λ i. end_of end (get_or edges i (0, 0)) ≡ part) (edges_at end part edges)
edges_at_part end part edges = λ k e low.
    eqb-true (end_of end (get_or edges (get_or (edges_at end part edges) k e) (0, 0))) part
    (places_pass (λ edge. eqb (end_of end edge) part) 0 edges (0, 0) k e low (get_or (edges_at end part edges) k e) (omega arith))

pub edges_at_all : (end : End) (part : ℕ) (edges : List (ℕ × ℕ)) (i : ℕ) → i < length edges → end_of end (get_or edges i (0, 0)) ≡ part → Contains (edges_at end part edges) i
edges_at_all end part edges i low is =
    subst (Contains (edges_at end part edges)) (let at : 0 + i ≡ i = omega arith in at)
    (places_all (λ edge. eqb (end_of end edge) part) 0 edges (0, 0) i low (eq-eqb (end_of end (get_or edges i (0, 0))) part is))

-- the amounts of the edges at a part, by their numbers
amounts : (end : End) (part from : ℕ) (edges : List (ℕ × ℕ)) (arcs all : List ℕ) → length arcs ≡ length edges → ((k : ℕ) → get_or all (from + k) 0 ≡ get_or arcs k 0)
    → sum_by (λ i. get_or all i 0) (places (λ edge. eqb (end_of end edge) part) from edges) ≡ amount_at end part edges arcs
amounts end part from [] arcs all each same = refl
amounts end part from (edge ∷ edges) [] all each same = absurd (omega (arith, each))
amounts end part from (edge ∷ edges) (arc ∷ arcs) all each same =
    let rest = amounts end part (from + 1) edges arcs all (omega (arith, each)) (λ k. ap (λ n. get_or all n 0) (let at : (from + 1) + k ≡ from + suc k = omega arith in at) ∙ same (suc k)) in
    let here : get_or all from 0 ≡ arc = ap (λ n. get_or all n 0) (let at : from ≡ from + 0 = omega arith in at) ∙ same 0 in
    elim (eqb (end_of end edge) part) as (λ b. sum_by (λ i. get_or all i 0) (cond b (from ∷ places (λ e. eqb (end_of end e) part) (from + 1) edges) (places (λ e. eqb (end_of end e) part) (from + 1) edges))
    ≡ cond b arc 0 + amount_at end part edges arcs) [
      | true ↦ sum_by-cons (λ i. get_or all i 0) from (places (λ e. eqb (end_of end e) part) (from + 1) edges) ∙ omega (arith, here, rest)
      | false ↦ rest ∙ omega arith
    ]

pub amounts_at : (end : End) (part : ℕ) (edges : List (ℕ × ℕ)) (arcs : List ℕ) → length arcs ≡ length edges → sum_by (λ i. get_or arcs i 0) (edges_at end part edges) ≡ amount_at end part edges arcs
amounts_at end part edges arcs each = amounts end part 0 edges arcs arcs each (λ k. ap (λ n. get_or arcs n 0) (let at : 0 + k ≡ k = omega arith in at))
