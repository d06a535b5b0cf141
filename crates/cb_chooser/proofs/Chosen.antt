-- The best set, of what was reached.
use Rattle.std.proofs.Common.{◌≡◌, ◌∙◌, sym, ap, subst, arith, ℕ, ◌+◌, ◌<◌, Bool, List, length, set, take, Some, slice_get, ◌++◌, [], ◌∷◌}
use Rattle.std.specs.Prelude.{ℤ}
use Rattle.std.proofs.lemmas.List.{take_more, take_more_set}
use Rattle.std.proofs.lemmas.Option.{get_or_from_slice_get}
use Rattle.cb_plain.specs.Amounts.{Amounts}
use Rattle.cb_dag.specs.Closed.{IsBest}
use Rattle.cb_dag.specs.Flows.{IsCertificate, IsCutOff, IsFlow, IsReachedSet}
use Rattle.cb_dag.specs.Parts.{AreWithin}
use Rattle.cb_dag.proofs.Laws.{best, certificate}

module _ (gains read : List ℤ) (edges : List (ℕ × ℕ)) (flow : Amounts) (set marks : List Bool) (parts : ℕ) (is : read ≡ gains) (same : set ≡ marks) (each : length gains ≡ parts)
    (within : AreWithin parts edges) (is_flow : IsFlow read edges flow) (marks_each : length marks ≡ length read) (are : IsReachedSet read edges flow marks) (cut : IsCutOff read edges flow) where
  inside : AreWithin (length read) edges
  inside = subst (λ n. AreWithin n edges) (sym (ap length is ∙ each)) within

  pub chosen_best : IsBest gains edges set
  chosen_best =
      subst (λ all. IsBest gains edges all) (sym same)
      (subst (λ all. IsBest all edges marks) is (best read edges flow marks inside is_flow marks_each are cut))

  pub chosen_shown : IsCertificate gains edges set flow
  chosen_shown =
      subst (λ all. IsCertificate gains edges all flow) (sym same)
      (subst (λ all. IsCertificate all edges marks flow) is (certificate read edges flow marks inside is_flow marks_each are cut))

pub copied_more : (marks all all' : List Bool) (part : ℕ) (mark : Bool) → part < length marks → length all ≡ length marks → take part all ≡ take part marks → slice_get marks part ≡ Some mark
    → all' ≡ set all part mark → take (part + 1) all' ≡ take (part + 1) marks
copied_more marks all all' part mark low each before there is =
    ap (take (part + 1)) is
    ∙ take_more_set all part mark (omega (arith, low, each))
    ∙ ap (λ front. front ++ mark ∷ []) before
    ∙ ap (λ last. take part marks ++ last ∷ []) (sym (get_or_from_slice_get marks part mark mark there))
    ∙ sym (take_more marks part mark low)
