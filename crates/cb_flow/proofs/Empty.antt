-- Networks through which nothing flows.
use Rattle.std.proofs.Common.{◌≡◌, ◌∙◌, sym, ap, refl, subst, inl, inr, arith, ℕ, Bool, true, false, List, [], ◌∷◌, length, get_or, replicate, cond, eqb}
use Rattle.std.specs.Prelude.{ℤ, pos}
use Rattle.std.proofs.lemmas.Bool.{cases_lt}
use Rattle.std.proofs.lemmas.List.{get_or-replicate, get_or_past, length-replicate}
use Rattle.cb_plain.specs.Amounts.{Amounts}
use Rattle.cb_plain.specs.Flows.{no_flow}
use Rattle.cb_dag.specs.Flows.{IsCutOff, IsGreatest, IsReachedSet, amount_at, negative, positive}
use Rattle.cb_dag.specs.Parts.{AreWithin}
use Rattle.cb_dag.specs.Places.{end_of}
use Rattle.cb_dag.specs.declared.ends.End.{End}
use Rattle.cb_dag.specs.declared.ends.End.TheVariants.{Finish, Start}
use Rattle.cb_dag.proofs.Laws.{certificate, greatest}
use Rattle.cb_flow.specs.Networks.{AreGains, IsHeld}

nothing_at : (n k : ℕ) → ◌≡◌ {A = ℕ} (get_or (replicate n 0) k 0) 0
nothing_at n k = elim (cases_lt k n) [ inl l ↦ get_or-replicate n k 0 0 l | inr p ↦ get_or_past (replicate n 0) k 0 (omega (arith, p, length-replicate {A = ℕ} n 0)) ]

amount_none : (end : End) (part : ℕ) (edges : List (ℕ × ℕ)) → ◌≡◌ {A = ℕ} (amount_at end part edges (replicate (length edges) 0)) 0
amount_none end part [] = refl
amount_none end part (edge ∷ edges) = omega (arith, amount_none end part edges, nothing (eqb (end_of end edge) part))
  where
    nothing : (b : Bool) → ◌≡◌ {A = ℕ} (cond b 0 0) 0
    nothing true = refl
    nothing false = refl

pub nothing_held : (gains : List ℤ) (edges : List (ℕ × ℕ)) (parts : ℕ) (flow : Amounts) → length gains ≡ parts → flow ≡ no_flow parts (length edges) → IsHeld gains edges flow
nothing_held gains edges parts flow each is = subst (IsHeld gains edges) (sym is) (record {
  is_flow = record {
    source_each = length-replicate parts 0 ∙ sym each;
    sink_each = length-replicate parts 0 ∙ sym each;
    arc_each = length-replicate (length edges) 0;
    sources = λ part low. omega (arith, nothing_at parts part);
    sinks = λ part low. omega (arith, nothing_at parts part);
    balanced = λ part low. omega (arith, nothing_at parts part, amount_none Start part edges, amount_none Finish part edges);
  };
  arcs = λ i. omega (arith, nothing_at (length edges) i);
})

pub no_gains_are : (gains : List ℤ) (parts : ℕ) → gains ≡ replicate parts (pos 0) → AreGains parts gains
no_gains_are gains parts is = subst (AreGains parts) (sym is) (record {
  each = length-replicate parts (pos 0);
  high = λ k d low. omega (arith, ap positive (get_or-replicate parts k (pos 0) d (omega (arith, low, length-replicate parts (pos 0)))));
  low = λ k d low. omega (arith, ap negative (get_or-replicate parts k (pos 0) d (omega (arith, low, length-replicate parts (pos 0)))));
})

pub solved : (gains read : List ℤ) (edges : List (ℕ × ℕ)) (flow : Amounts) (marks : List Bool) (parts : ℕ) → read ≡ gains → length gains ≡ parts → AreWithin parts edges → IsHeld read edges flow
    → length marks ≡ length read → IsReachedSet read edges flow marks → IsCutOff read edges flow → IsGreatest gains edges flow
solved gains read edges flow marks parts is each within held marks_each are cut = subst (λ all. IsGreatest all edges flow) is
    (greatest read edges marks flow inside (certificate read edges flow marks inside held.is_flow marks_each are cut))
  where
    inside : AreWithin (length read) edges
    inside = subst (λ n. AreWithin n edges) (sym (ap length is ∙ each)) within
