-- Where all that is used is reckoned to survive, the best set has no part.
use Rattle.std.proofs.Common.{◌≡◌, ◌∙◌, ℕ, ◌<◌, ◌==◌, Bool, true, false, if◌then◌else◌, List, [], ◌∷◌, length, replicate, get_or, refl, sym, ap, arith, subst, inl, inr}
use Rattle.std.specs.Prelude.{ℤ, pos, negsuc, ◌≤ℤ◌, unwrap_or}
use Rattle.std.specs.List.{All}
use Rattle.std.proofs.lemmas.Bool.{cases_lt, both_ways}
use Rattle.std.proofs.lemmas.Int.{ints}
use Rattle.std.proofs.lemmas.List.{get_or-map, get_or-replicate, get_or_past, length-map, length-replicate}
use Rattle.cb_plain.specs.Estimates.{all_code, survive}
use Rattle.cb_plain.specs.Flows.{no_flow}
use Rattle.cb_plain.specs.declared.facts.Facts.{Facts}
use Rattle.cb_dag.specs.Closed.{IsBest, gain_of}
use Rattle.cb_dag.specs.Flows.{FromSource, GivenBack, IsCutOff, IsFlow, IsReached, IsReachedSet, Onwards, amount_at, gain_at, positive}
use Rattle.cb_dag.specs.Marks.{marked}
use Rattle.cb_dag.specs.Parts.{AreWithin}
use Rattle.cb_dag.specs.Places.{end_of}
use Rattle.cb_dag.specs.declared.ends.End.{End}
use Rattle.cb_dag.specs.declared.ends.End.TheVariants.{Finish, Start}
use Rattle.cb_dag.proofs.Laws as graphs
use Rattle.cb_collector.specs.Known.{Known, estimate_in, first_facts, gains}
use Rattle.cb_collector.specs.Policy.{Best, HasNone, NoneIsBest, none_chosen}

-- no part gains anything
gain_low : (of : Facts) (code : ℕ) → code ≡ all_code → gain_of of (unwrap_or (survive code of) 0) ≤ℤ pos 0
gain_low of code is =
    let here : gain_of of (unwrap_or (survive all_code of) 0) ≤ℤ pos 0 = omega (arith, ints) in
    subst (λ c. gain_of of (unwrap_or (survive c of) 0) ≤ℤ pos 0) (sym is) here

gains_low : (known : Known) → known.config.code ≡ all_code → All (λ gained. gained ≤ℤ pos 0) (gains known)
gains_low known is = λ part d below.
    let within : part < length known.facts = omega (arith, below, length-map known.facts (λ of. gain_of of (estimate_in known of))) in
    subst (λ gained. gained ≤ℤ pos 0) (sym (get_or-map (λ of. gain_of of (estimate_in known of)) known.facts part (first_facts false part) d within)) (gain_low (get_or known.facts part (first_facts false part)) known.config.code is)

positive_low : (gained : ℤ) → gained ≤ℤ pos 0 → positive gained ≡ 0
positive_low (pos n) low = let e : n ≡ 0 = omega (arith, ints, low) in e
positive_low (negsuc n) low = refl

-- nothing flows
zero_at : (n place : ℕ) → ◌≡◌ {A = ℕ} (get_or (replicate n 0) place 0) 0
zero_at n place =
    let zeros : List ℕ = replicate n 0 in
    elim (cases_lt place n) [
      | inl below ↦ get_or-replicate {A = ℕ} n place 0 0 below
      | inr past ↦ get_or_past zeros place 0 (omega (arith, past, length-replicate {A = ℕ} n 0))
    ]

either_zero : (b : Bool) → ◌≡◌ {A = ℕ} (if b then 0 else 0) 0
either_zero true = refl
either_zero false = refl

amount_zero : (end : End) (part : ℕ) (edges : List (ℕ × ℕ)) → amount_at end part edges (replicate (length edges) 0) ≡ 0
amount_zero end part [] = refl
amount_zero end part (edge ∷ edges) = omega (arith, either_zero (end_of end edge == part), amount_zero end part edges)

flows_not : (all : List ℤ) (edges : List (ℕ × ℕ)) → IsFlow all edges (no_flow (length all) (length edges))
flows_not all edges =
    record {
      source_each = length-replicate {A = ℕ} (length all) 0;
      sink_each = length-replicate {A = ℕ} (length all) 0;
      arc_each = length-replicate {A = ℕ} (length edges) 0;
      sources = λ part below. omega (arith, zero_at (length all) part);
      sinks = λ part below. omega (arith, zero_at (length all) part);
      balanced = λ part below. omega (arith, zero_at (length all) part, amount_zero Start part edges, amount_zero Finish part edges);
    }

reaches_none : (all : List ℤ) (edges : List (ℕ × ℕ)) (part : ℕ) → All (λ gained. gained ≤ℤ pos 0) all → IsReached all edges (no_flow (length all) (length edges)) part → ⊥
reaches_none all edges part low (FromSource at below more) = absurd (omega (arith, more, zero_at (length all) at, positive_low (gain_at all at) (low at (pos 0) below)))
reaches_none all edges part low (Onwards p q i reached below is) = reaches_none all edges q low reached
reaches_none all edges part low (GivenBack p q i reached below is some) = reaches_none all edges p low reached

pub none_marked : (n : ℕ) → HasNone (replicate n false)
none_marked n part = elim (cases_lt part n) [
  | inl below ↦ get_or-replicate n part false false below
  | inr past ↦ get_or_past (replicate n false) part false (omega (arith, past, length-replicate n false))
]

pub none_best : (known : Known) → known.config.code ≡ all_code → AreWithin (length known.facts) known.config.edges → Best known (none_chosen known)
none_best known code within =
    let all : List ℤ = gains known in
    let each : length all ≡ length known.facts = length-map known.facts (λ of. gain_of of (estimate_in known of)) in
    let inside : AreWithin (length all) known.config.edges = subst (λ n. AreWithin n known.config.edges) (sym each) within in
    let flow : IsFlow all known.config.edges (no_flow (length all) (length known.config.edges)) = flows_not all known.config.edges in
    let long : length (replicate (length known.facts) false) ≡ length all = length-replicate (length known.facts) false ∙ sym each in
    let low = gains_low known code in
    let reached : IsReachedSet all known.config.edges (no_flow (length all) (length known.config.edges)) (replicate (length known.facts) false) =
    λ part below. (λ on. absurd (both_ways _ (none_marked (length known.facts) part) on), λ there. absurd (reaches_none all known.config.edges part low there)) in
    let cut : IsCutOff all known.config.edges (no_flow (length all) (length known.config.edges)) = λ part below there. absurd (reaches_none all known.config.edges part low there) in
    record {
      best = graphs.best all known.config.edges (no_flow (length all) (length known.config.edges)) (replicate (length known.facts) false) inside flow long reached cut;
      shown = graphs.certificate all known.config.edges (no_flow (length all) (length known.config.edges)) (replicate (length known.facts) false) inside flow long reached cut;
      facts = refl;
      estimates_are = refl;
    }

pub none_alone : (known : Known) → known.config.code ≡ all_code → AreWithin (length known.facts) known.config.edges →
    ((all : List ℤ) (edges : List (ℕ × ℕ)) (set : List Bool) → All (λ gained. gained ≤ℤ pos 0) all → IsBest all edges set → set ≡ replicate (length all) false) → NoneIsBest known
none_alone known code within nothing =
    record {
      is = none_best known code within;
      only = λ chosen best part.
          ap (λ set. marked set part) (nothing (gains known) known.config.edges chosen.set (gains_low known code) best.best) ∙ none_marked (length (gains known)) part;
    }
