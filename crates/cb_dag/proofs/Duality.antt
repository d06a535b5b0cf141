-- What closed sets gain and what flows, part by part: the difference of a bound and a gain is a sum of slacks (Picard 1976).
use Rattle.std.proofs.Common.{◌≡◌, ◌≢◌, ◌∙◌, sym, ap, refl, subst, inl, inr, arith, ℕ, zero, suc, ◌+◌, ◌<◌, ◌≤◌, Bool, true, false, not, ◌&&◌, List, [], ◌∷◌, length, get_or, replicate, eqb, cond}
use Rattle.std.specs.Prelude.{ℤ, pos, negsuc, ◌+ℤ◌, ◌≤ℤ◌}
use Rattle.std.proofs.lemmas.Int.{ints}
use Rattle.std.specs.List.{All, sum, sum_by}
use Rattle.std.proofs.lemmas.Bool.{both_ways, cases_Bool, cases_lt, cond-false, cond-true, eq-eqb, ne_eqb}
use Rattle.std.proofs.lemmas.List.{get_or-replicate, get_or_past, length-replicate, ext_get_or}
use Rattle.std.proofs.lemmas.List.Elements.{All-from_get_or, All-head, All-tail, All-weaker}
use Rattle.cb_plain.specs.Amounts.{Amounts}
use Rattle.cb_dag.specs.Closed.{IsBest, IsClosed, IsClosedSet, NoneGainsMore, gain}
use Rattle.cb_dag.specs.Flows.{FromSource, GivenBack, IsCertificate, IsCutOff, IsFlow, IsGreatest, IsReached, IsReachedSet, Onwards, amount_at, bound, gain_at, inflow, negative, outflow, positive}
use Rattle.cb_dag.specs.Marks.{marked}
use Rattle.cb_dag.specs.Parts.{AreWithin}
use Rattle.cb_dag.specs.Places.{end_of}
use Rattle.cb_dag.specs.declared.ends.End.{End}
use Rattle.cb_dag.specs.declared.ends.End.TheVariants.{Finish, Start}
use Rattle.cb_dag.proofs.Among.{marked_within}
use Rattle.cb_dag.proofs.Totals.{total, total-add, total-le, total-same, total-single, total-split, total-tight, total-zero, total_of, when, when-le}

-- the sum of the amounts of the edges that pass a test
abbrev across : (ℕ × ℕ → Bool) → List (ℕ × ℕ) → List ℕ → ℕ
across test [] arcs = 0
across test (edge ∷ edges) [] = 0
across test (edge ∷ edges) (arc ∷ arcs) = when (test edge) arc + across test edges arcs

-- an amount at one number
abbrev point : (at amount : ℕ) → ℕ → ℕ
point at amount k = cond (eqb at k) amount 0

-- the amounts at the parts of a set are those of the edges that have one as their end
at_set : (end : End) (n : ℕ) (set : List Bool) (edges : List (ℕ × ℕ)) (arcs : List ℕ) → All (λ edge. end_of end edge < n) edges
    → total n (λ k. when (marked set k) (amount_at end k edges arcs)) ≡ across (λ edge. marked set (end_of end edge)) edges arcs
at_set end n set [] arcs within = total-zero n (λ k. when (marked set k) 0) (λ k _. nothing (marked set k))
  where
    nothing : (b : Bool) → ◌≡◌ {A = ℕ} (when b 0) 0
    nothing true = refl
    nothing false = refl
at_set end n set (edge ∷ edges) [] within = total-zero n (λ k. when (marked set k) 0) (λ k _. nothing (marked set k))
  where
    nothing : (b : Bool) → ◌≡◌ {A = ℕ} (when b 0) 0
    nothing true = refl
    nothing false = refl
at_set end n set (edge ∷ edges) (arc ∷ arcs) within =
    total-same n (λ k. when (marked set k) (amount_at end k (edge ∷ edges) (arc ∷ arcs)))
    (λ k. when (marked set k) (point (end_of end edge) arc k) + when (marked set k) (amount_at end k edges arcs)) (λ k _. spread (marked set k) (point (end_of end edge) arc k) (amount_at end k edges arcs))
    ∙ total-add n (λ k. when (marked set k) (point (end_of end edge) arc k)) (λ k. when (marked set k) (amount_at end k edges arcs))
    ∙ ap (λ m. m + total n (λ k. when (marked set k) (amount_at end k edges arcs)))
    (total-single n (end_of end edge) (λ k. when (marked set k) (point (end_of end edge) arc k)) (All-head (λ e. end_of end e < n) edge edges within) (λ k apart. elsewhere k apart)
    ∙ ap (λ x. when (marked set (end_of end edge)) x) (here_is))
    ∙ ap (λ m. when (marked set (end_of end edge)) arc + m) (at_set end n set edges arcs (All-tail (λ e. end_of end e < n) edge edges within))
  where
    spread : (b : Bool) (x y : ℕ) → when b (x + y) ≡ when b x + when b y
    spread true x y = refl
    spread false x y = refl

    here_is : point (end_of end edge) arc (end_of end edge) ≡ arc
    here_is = cond-true (eqb (end_of end edge) (end_of end edge)) arc 0 (eq-eqb (end_of end edge) (end_of end edge) refl)

    elsewhere : (k : ℕ) → k ≢ end_of end edge → ◌≡◌ {A = ℕ} (when (marked set k) (point (end_of end edge) arc k)) 0
    elsewhere k apart = ap (when (marked set k)) (cond-false (eqb (end_of end edge) k) arc 0 (ne_eqb (end_of end edge) k (λ same. apart (sym same)))) ∙ nothing (marked set k)
      where
        nothing : (b : Bool) → ◌≡◌ {A = ℕ} (when b 0) 0
        nothing true = refl
        nothing false = refl

-- from a closed set no edge leads to a part outside but those along which nothing flows into it
abbrev leaves : List Bool → ℕ × ℕ → Bool
leaves set edge = marked set edge.0 && not (marked set edge.1)

split_one : (a b : Bool) (x : ℕ) → (b ≡ true → a ≡ true) → when a x ≡ when b x + when (a && not b) x
split_one true true x closed = omega arith
split_one true false x closed = omega arith
split_one false true x closed = absurd (both_ways false refl (closed refl))
split_one false false x closed = refl

across-split : (set : List Bool) (edges : List (ℕ × ℕ)) (arcs : List ℕ) → IsClosed edges set
    → across (λ edge. marked set edge.0) edges arcs ≡ across (λ edge. marked set edge.1) edges arcs + across (leaves set) edges arcs
across-split set [] arcs closed = refl
across-split set (edge ∷ edges) [] closed = refl
across-split set (edge ∷ edges) (arc ∷ arcs) closed =
    omega (
      arith,
      split_one (marked set edge.0) (marked set edge.1) arc (All-head (λ e. marked set e.1 ≡ true → marked set e.0 ≡ true) edge edges closed),
      across-split set edges arcs (All-tail (λ e. marked set e.1 ≡ true → marked set e.0 ≡ true) edge edges closed),
    )

across_nothing : (test : ℕ × ℕ → Bool) (edges : List (ℕ × ℕ)) (arcs : List ℕ)
    → ((i : ℕ) → i < length edges → test (get_or edges i (0, 0)) ≡ true → ◌≡◌ {A = ℕ} (get_or arcs i 0) 0) → ◌≡◌ {A = ℕ} (across test edges arcs) 0
across_nothing test [] arcs none = refl
across_nothing test (edge ∷ edges) [] none = refl
across_nothing test (edge ∷ edges) (arc ∷ arcs) none =
    let rest : ◌≡◌ {A = ℕ} (across test edges arcs) 0 = across_nothing test edges arcs (λ i within on. none (suc i) (omega (arith, within)) on) in
    let first : ◌≡◌ {A = ℕ} (when (test edge) arc) 0 = at_first (test edge) (λ on. none 0 (omega arith) on) in
    omega (arith, rest, first)
  where
    at_first : (b : Bool) → (b ≡ true → ◌≡◌ {A = ℕ} arc 0) → ◌≡◌ {A = ℕ} (when b arc) 0
    at_first true none = none refl
    at_first false none = refl

nothing_across : (test : ℕ × ℕ → Bool) (edges : List (ℕ × ℕ)) (arcs : List ℕ) → ◌≡◌ {A = ℕ} (across test edges arcs) 0
    → (i : ℕ) → i < length edges → test (get_or edges i (0, 0)) ≡ true → ◌≡◌ {A = ℕ} (get_or arcs i 0) 0
nothing_across test [] arcs none i within on = absurd (omega (arith, within))
nothing_across test (edge ∷ edges) [] none i within on = get_or_past [] i 0 (omega arith)
nothing_across test (edge ∷ edges) (arc ∷ arcs) none zero within on = first (test edge) on (omega (arith, none))
  where
    first : (b : Bool) → b ≡ true → ◌≡◌ {A = ℕ} (when b arc) 0 → ◌≡◌ {A = ℕ} arc 0
    first true on none = none
    first false on none = absurd (both_ways false refl on)
nothing_across test (edge ∷ edges) (arc ∷ arcs) none (suc i) within on = nothing_across test edges arcs (omega (arith, none)) i (omega (arith, within)) on

-- what a set gains, in two sums
signs : (g : ℤ) → g +ℤ pos (negative g) ≡ pos (positive g)
signs (pos n) = omega (arith, ints)
signs (negsuc n) = omega (arith, ints)

gain-parts : (gains : List ℤ) (set : List Bool) → length set ≡ length gains
    → gain gains set +ℤ pos (total (length gains) (λ k. when (marked set k) (negative (gain_at gains k)))) ≡ pos (total (length gains) (λ k. when (marked set k) (positive (gain_at gains k))))
gain-parts [] set each = refl
gain-parts (g ∷ gains) [] each = absurd (omega (arith, each))
gain-parts (g ∷ gains) (true ∷ set) each = omega (arith, ints, signs g, gain-parts gains set (omega (arith, each)))
gain-parts (g ∷ gains) (false ∷ set) each = omega (arith, ints, gain-parts gains set (omega (arith, each)))

total-when-add : (n : ℕ) (set : List Bool) (f g : ℕ → ℕ)
    → total n (λ k. when (marked set k) (f k + g k)) ≡ total n (λ k. when (marked set k) (f k)) + total n (λ k. when (marked set k) (g k))
total-when-add n set f g =
    total-same n (λ k. when (marked set k) (f k + g k)) (λ k. when (marked set k) (f k) + when (marked set k) (g k)) (λ k _. spread (marked set k) (f k) (g k))
    ∙ total-add n (λ k. when (marked set k) (f k)) (λ k. when (marked set k) (g k))
  where
    spread : (b : Bool) (x y : ℕ) → when b (x + y) ≡ when b x + when b y
    spread true x y = refl
    spread false x y = refl

module _ (gains : List ℤ) (edges : List (ℕ × ℕ)) (flow : Amounts) (is_flow : IsFlow gains edges flow) (within : AreWithin (length gains) edges)
    (set : List Bool) (is_set : IsClosedSet gains edges set) where
  abbrev source_in : ℕ
  source_in = total (length gains) (λ k. when (marked set k) (get_or flow.sources k 0))

  abbrev source_out : ℕ
  source_out = total (length gains) (λ k. when (not (marked set k)) (get_or flow.sources k 0))

  abbrev sink_in : ℕ
  sink_in = total (length gains) (λ k. when (marked set k) (get_or flow.sinks k 0))

  abbrev positive_in : ℕ
  positive_in = total (length gains) (λ k. when (marked set k) (positive (gain_at gains k)))

  abbrev positive_out : ℕ
  positive_out = total (length gains) (λ k. when (not (marked set k)) (positive (gain_at gains k)))

  abbrev negative_in : ℕ
  negative_in = total (length gains) (λ k. when (marked set k) (negative (gain_at gains k)))

  abbrev leaving : ℕ
  leaving = across (leaves set) edges flow.arcs

  -- what comes from the source to the set goes to the sink, but for what flows out along edges
  conserved : source_in + leaving ≡ sink_in
  conserved =
      let starts = at_set Start (length gains) set edges flow.arcs (All-weaker (λ e. (e.0 < length gains) × (e.1 < length gains)) (λ e. end_of Start e < length gains) (λ e ends. ends.0) edges within) in
      let finishes = at_set Finish (length gains) set edges flow.arcs (All-weaker (λ e. (e.0 < length gains) × (e.1 < length gains)) (λ e. end_of Finish e < length gains) (λ e ends. ends.1) edges within) in
      let ins = total-when-add (length gains) set (λ k. get_or flow.sources k 0) (λ k. amount_at Start k edges flow.arcs) in
      let outs = total-when-add (length gains) set (λ k. get_or flow.sinks k 0) (λ k. amount_at Finish k edges flow.arcs) in
      let balance = total-same (length gains) (λ k. when (marked set k) (inflow edges flow k)) (λ k. when (marked set k) (outflow edges flow k))
      (λ k low. ap (when (marked set k)) (is_flow.balanced k low)) in
      omega (arith, starts, finishes, ins, outs, balance, across-split set edges flow.arcs is_set.closed)

  sources_split : sum flow.sources ≡ source_in + source_out
  sources_split =
      total_of (λ x. x) 0 flow.sources
      ∙ ap (λ n. total n (λ k. get_or flow.sources k 0)) is_flow.source_each
      ∙ total-split (length gains) (marked set) (λ k. get_or flow.sources k 0)

  positives_split : sum_by positive gains ≡ positive_in + positive_out
  positives_split = total_of positive (pos 0) gains ∙ total-split (length gains) (marked set) (λ k. positive (gain_at gains k))

  sinks_below : sink_in ≤ negative_in
  sinks_below = total-le (length gains) (λ k. when (marked set k) (get_or flow.sinks k 0)) (λ k. when (marked set k) (negative (gain_at gains k)))
      (λ k low. when-le (marked set k) (get_or flow.sinks k 0) (negative (gain_at gains k)) (is_flow.sinks k low))

  sources_below : source_out ≤ positive_out
  sources_below = total-le (length gains) (λ k. when (not (marked set k)) (get_or flow.sources k 0)) (λ k. when (not (marked set k)) (positive (gain_at gains k)))
      (λ k low. when-le (not (marked set k)) (get_or flow.sources k 0) (positive (gain_at gains k)) (is_flow.sources k low))

  gained : gain gains set +ℤ pos negative_in ≡ pos positive_in
  gained = gain-parts gains set is_set.each

  -- no closed set gains more than the bound
  pub gain-le-bound : gain gains set ≤ℤ bound gains flow
  gain-le-bound = omega (arith, ints, conserved, sources_split, positives_split, sinks_below, sources_below, gained)

  -- where it gains as much, each slack is nothing
  pub source_full : gain gains set ≡ bound gains flow → (k : ℕ) → k < length gains → marked set k ≡ false → get_or flow.sources k 0 ≡ positive (gain_at gains k)
  source_full tight k low out =
      let all : positive_out ≤ source_out = omega (arith, ints, tight, conserved, sources_split, positives_split, sinks_below, sources_below, gained) in
      let here = total-tight (length gains) (λ k. when (not (marked set k)) (get_or flow.sources k 0)) (λ k. when (not (marked set k)) (positive (gain_at gains k)))
      (λ k low. when-le (not (marked set k)) (get_or flow.sources k 0) (positive (gain_at gains k)) (is_flow.sources k low)) all k low in
      at (marked set k) out here
    where
      at : (b : Bool) → b ≡ false → when (not b) (get_or flow.sources k 0) ≡ when (not b) (positive (gain_at gains k)) → get_or flow.sources k 0 ≡ positive (gain_at gains k)
      at false off here = here
      at true off here = absurd (both_ways true off refl)

  pub leaving_none : gain gains set ≡ bound gains flow → (i : ℕ) → i < length edges → marked set (get_or edges i (0, 0)).0 ≡ true → marked set (get_or edges i (0, 0)).1 ≡ false
      → ◌≡◌ {A = ℕ} (get_or flow.arcs i 0) 0
  leaving_none tight i low inside out =
      let none : ◌≡◌ {A = ℕ} leaving 0 = omega (arith, ints, tight, conserved, sources_split, positives_split, sinks_below, sources_below, gained) in
      nothing_across (leaves set) edges flow.arcs none i low (both (marked set (get_or edges i (0, 0)).0) (marked set (get_or edges i (0, 0)).1) inside out)
    where
      both : (a b : Bool) → a ≡ true → b ≡ false → (a && not b) ≡ true
      both true false on off = refl
      both true true on off = absurd (both_ways true off refl)
      both false b on off = absurd (both_ways false refl on)

  -- and where each is nothing, it gains as much
  pub tight_from : ((k : ℕ) → k < length gains → marked set k ≡ false → get_or flow.sources k 0 ≡ positive (gain_at gains k))
      → ((k : ℕ) → k < length gains → marked set k ≡ true → get_or flow.sinks k 0 ≡ negative (gain_at gains k))
      → ((i : ℕ) → i < length edges → marked set (get_or edges i (0, 0)).0 ≡ true → marked set (get_or edges i (0, 0)).1 ≡ false → ◌≡◌ {A = ℕ} (get_or flow.arcs i 0) 0)
      → gain gains set ≡ bound gains flow
  tight_from full emptied none =
      let outside : source_out ≡ positive_out = total-same (length gains) (λ k. when (not (marked set k)) (get_or flow.sources k 0)) (λ k. when (not (marked set k)) (positive (gain_at gains k)))
      (λ k low. off (marked set k) (get_or flow.sources k 0) (positive (gain_at gains k)) (full k low)) in
      let inside : sink_in ≡ negative_in = total-same (length gains) (λ k. when (marked set k) (get_or flow.sinks k 0)) (λ k. when (marked set k) (negative (gain_at gains k)))
      (λ k low. on (marked set k) (get_or flow.sinks k 0) (negative (gain_at gains k)) (emptied k low)) in
      let nothing : ◌≡◌ {A = ℕ} leaving 0 = across_nothing (leaves set) edges flow.arcs
      (λ i low both. let p = parts (marked set (get_or edges i (0, 0)).0) (marked set (get_or edges i (0, 0)).1) both in none i low p.0 p.1) in
      omega (arith, ints, outside, inside, nothing, conserved, sources_split, positives_split, gained)
    where
      off : (b : Bool) (x y : ℕ) → (b ≡ false → x ≡ y) → when (not b) x ≡ when (not b) y
      off true x y same = refl
      off false x y same = same refl

      on : (b : Bool) (x y : ℕ) → (b ≡ true → x ≡ y) → when b x ≡ when b y
      on true x y same = same refl
      on false x y same = refl

      parts : (a b : Bool) → (a && not b) ≡ true → (a ≡ true) × (b ≡ false)
      parts true false both = (refl, refl)
      parts true true both = absurd (both_ways false refl both)
      parts false b both = absurd (both_ways false refl both)

-- a certificate shows that no closed set gains more, and that no flow is greater
pub shows_none_more : (gains : List ℤ) (edges : List (ℕ × ℕ)) (set : List Bool) (flow : Amounts) → AreWithin (length gains) edges → IsCertificate gains edges set flow → NoneGainsMore gains edges set
shows_none_more gains edges set flow within shown = λ other is_set.
    subst (λ z. gain gains other ≤ℤ z) (sym shown.reached) (gain-le-bound gains edges flow shown.is_flow within other is_set)

pub shows_greatest : (gains : List ℤ) (edges : List (ℕ × ℕ)) (set : List Bool) (flow : Amounts) → AreWithin (length gains) edges → IsCertificate gains edges set flow → IsGreatest gains edges flow
shows_greatest gains edges set flow within shown = record {
  is_flow = shown.is_flow;
  greatest = λ other is_flow. omega (arith, ints, shown.reached, gain-le-bound gains edges other is_flow within set shown.is_set);
}

-- the set of the parts that are reached, where no more can flow to the sink
module _ (gains : List ℤ) (edges : List (ℕ × ℕ)) (flow : Amounts) (set : List Bool) (within : AreWithin (length gains) edges) (is_flow : IsFlow gains edges flow)
    (each : length set ≡ length gains) (are : IsReachedSet gains edges flow set) (cut : IsCutOff gains edges flow) where
  reached_closed : IsClosedSet gains edges set
  reached_closed = record {
    each = each;
    closed = All-from_get_or (λ edge. marked set edge.1 ≡ true → marked set edge.0 ≡ true) edges (0, 0)
        (λ i low on.
        let ends = within i (0, 0) low in
        (are (get_or edges i (0, 0)).0 ends.0).1 (Onwards (get_or edges i (0, 0)).0 (get_or edges i (0, 0)).1 i ((are (get_or edges i (0, 0)).1 ends.1).0 on) low refl));
  }

  full : (k : ℕ) → k < length gains → marked set k ≡ false → get_or flow.sources k 0 ≡ positive (gain_at gains k)
  full k low out = elim (cases_lt (get_or flow.sources k 0) (positive (gain_at gains k))) [
    | inl more ↦ absurd (both_ways (marked set k) out ((are k low).1 (FromSource k low more)))
    | inr most ↦ omega (arith, most, is_flow.sources k low)
  ]

  none : (i : ℕ) → i < length edges → marked set (get_or edges i (0, 0)).0 ≡ true → marked set (get_or edges i (0, 0)).1 ≡ false → ◌≡◌ {A = ℕ} (get_or flow.arcs i 0) 0
  none i low inside out = elim (cases_lt 0 (get_or flow.arcs i 0)) [
    | inl some ↦ absurd (both_ways (marked set (get_or edges i (0, 0)).1) out
        ((are (get_or edges i (0, 0)).1 (within i (0, 0) low).1).1
        (GivenBack (get_or edges i (0, 0)).0 (get_or edges i (0, 0)).1 i ((are (get_or edges i (0, 0)).0 (within i (0, 0) low).0).0 inside) low refl some)))
    | inr nothing ↦ omega (arith, nothing)
  ]

  pub reached_shown : IsCertificate gains edges set flow
  reached_shown = record {
    is_set = reached_closed;
    is_flow = is_flow;
    reached = tight_from gains edges flow is_flow within set reached_closed full (λ k low inside. cut k low ((are k low).0 inside)) none;
  }

  -- each set that gains as much has all that is reached
  reached_within : (other : List Bool) (is_set : IsClosedSet gains edges other) → gain gains other ≡ bound gains flow → (part : ℕ) → IsReached gains edges flow part → marked other part ≡ true
  reached_within other is_set tight goal (FromSource part low more) = elim (cases_Bool (marked other part)) [
    | inl inside ↦ inside
    | inr out ↦ absurd (let same : get_or flow.sources part 0 ≡ positive (gain_at gains part) = source_full gains edges flow is_flow within other is_set tight part low out in omega (arith, same, more))
  ]
  reached_within other is_set tight goal (Onwards part q i path low pair) =
      let there : marked other q ≡ true = reached_within other is_set tight q path in
      subst (λ (e : ℕ × ℕ). marked other e.0 ≡ true) pair (is_set.closed i (0, 0) low (subst (λ (e : ℕ × ℕ). marked other e.1 ≡ true) (sym pair) there))
  reached_within other is_set tight goal (GivenBack p part i path low pair some) = elim (cases_Bool (marked other part)) [
    | inl inside ↦ inside
    | inr out ↦
        let there : marked other p ≡ true = reached_within other is_set tight p path in
        absurd (let zero : ◌≡◌ {A = ℕ} (get_or flow.arcs i 0) 0 = leaving_none gains edges flow is_flow within other is_set tight i low
        (subst (λ (e : ℕ × ℕ). marked other e.0 ≡ true) (sym pair) there) (subst (λ (e : ℕ × ℕ). marked other e.1 ≡ false) (sym pair) out) in omega (arith, zero, some))
  ]

  pub reached_best : IsBest gains edges set
  reached_best = record {
    is_set = reached_closed;
    greatest = shows_none_more gains edges set flow within reached_shown;
    least = λ other is_set same part on.
        reached_within other is_set (same ∙ reached_shown.reached) part ((are part (let inside : part < length set = marked_within set part on in omega (arith, inside, each))).0 on);
  }

-- all parts, and none
pub all_closed : (n : ℕ) (edges : List (ℕ × ℕ)) → AreWithin n edges → IsClosed edges (replicate n true)
all_closed n edges within = λ k d low on. get_or-replicate n (get_or edges k d).0 true false (within k d low).0

pub none_closed : (n : ℕ) (edges : List (ℕ × ℕ)) → IsClosed edges (replicate n false)
none_closed n edges = λ k d low on. absurd (both_ways _ (none_marked n (get_or edges k d).1) on)
  where
    none_marked : (n part : ℕ) → marked (replicate n false) part ≡ false
    none_marked n part = elim (cases_lt part n) [
      | inl l ↦ get_or-replicate n part false false l
      | inr past ↦ get_or_past (replicate n false) part false (omega (arith, past, length-replicate n false))
    ]

gain_none : (gains : List ℤ) → gain gains (replicate (length gains) false) ≡ pos 0
gain_none [] = refl
gain_none (g ∷ gains) = gain_none gains

gain_low : (gains : List ℤ) (set : List Bool) → All (λ g. g ≤ℤ pos 0) gains → gain gains set ≤ℤ pos 0
gain_low [] set low = omega (arith, ints)
gain_low (g ∷ gains) [] low = omega (arith, ints)
gain_low (g ∷ gains) (true ∷ set) low =
    let first : g ≤ℤ pos 0 = All-head (λ g. g ≤ℤ pos 0) g gains low in
    omega (arith, ints, first, gain_low gains set (All-tail (λ g. g ≤ℤ pos 0) g gains low))
gain_low (g ∷ gains) (false ∷ set) low = gain_low gains set (All-tail (λ g. g ≤ℤ pos 0) g gains low)

-- where nothing gains, the best set is empty
pub nothing_best : (gains : List ℤ) (edges : List (ℕ × ℕ)) (set : List Bool) → All (λ g. g ≤ℤ pos 0) gains → IsBest gains edges set → set ≡ replicate (length gains) false
nothing_best gains edges set low best =
    let empty : IsClosedSet gains edges (replicate (length gains) false) = record { each = length-replicate (length gains) false; closed = none_closed (length gains) edges } in
    let most = best.greatest (replicate (length gains) false) empty in
    let same : gain gains (replicate (length gains) false) ≡ gain gains set = omega (arith, ints, most, gain_none gains, gain_low gains set low) in
    ext_get_or false set (replicate (length gains) false) (best.is_set.each ∙ sym (length-replicate (length gains) false))
    (λ i inside. elim (cases_Bool (marked set i)) [
      | inl on ↦ on ∙ sym (best.least (replicate (length gains) false) empty same i on)
      | inr off ↦ off ∙ sym (get_or-replicate (length gains) i false false (omega (arith, inside, best.is_set.each)))
    ])
