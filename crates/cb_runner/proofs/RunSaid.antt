-- Which words say a run.
use Rattle.std.proofs.Common.{◌≡◌, ◌∙◌, sym, subst, codes, ℕ, List, [], ◌∷◌}
use Rattle.cb_runner.specs.Inner.{TakesOptions}
use Rattle.cb_runner.specs.Words.{AreArguments, AreFew, Command, IsMain, IsOption, IsRun, ListOf, Run, RunIn, Assemble, Says, IsList}
use Rattle.cb_runner.proofs.FewItems.{heads, tails}
use Rattle.cb_runner.proofs.Plain.{few_arguments, few_behind}

-- what stands behind the options of a run
module _ (steps frames blocks : ℕ) (words rest : List (List ℕ)) (takes : TakesOptions steps frames blocks words rest) (own class : List ℕ) (behind : List (List ℕ)) (is : rest ≡ own ∷ class ∷ behind) where
  run_front : (folder : List ℕ) (run : Run) → (says : IsRun folder run words) → own ∷ class ∷ behind ≡ folder ∷ says.class ∷ says.behind
  run_front folder run says =
      let (told, rest_is) = takes.told says.told says.options folder (says.class ∷ says.behind) says.are_options says.words_are says.no_option in
      sym is ∙ rest_is

  pub no_folder : IsOption own → (folder : List ℕ) (run : Run) → IsRun folder run words → ⊥
  no_folder option folder run says = says.no_option (subst IsOption (heads (run_front folder run says)) option)

  pub no_class : ¬ IsMain class → (folder : List ℕ) (run : Run) → IsRun folder run words → ⊥
  no_class none folder run says = none (subst IsMain (sym (heads (tails (run_front folder run says)))) says.is_main)

  pub no_behind : ((arguments : List (List ℕ)) → AreArguments behind arguments → ⊥) → (folder : List ℕ) (run : Run) → IsRun folder run words → ⊥
  no_behind none folder run says =
      none run.arguments (subst (λ behind. AreArguments behind run.arguments) (sym (tails (tails (run_front folder run says)))) says.are_arguments)

-- words that are none of the three say no command
pub none_said : (words : List (List ℕ)) → ((folder : List ℕ) (run : Run) → Says words (RunIn folder run) → ⊥) → ((path : List ℕ) → IsList path words → ⊥)
    → ¬ (words ≡ codes "asm" ∷ []) → (command : Command) → ¬ Says words command
none_said words no_run no_list no_text (RunIn folder run) says = no_run folder run says
none_said words no_run no_list no_text (ListOf path) says = no_list path says
none_said words no_run no_list no_text Assemble says = no_text says

-- the arguments of a run are few where its words are
pub few_said : (words : List (List ℕ)) (folder : List ℕ) (run : Run) → Says words (RunIn folder run) → AreFew words → AreFew run.arguments
few_said words folder run (behind, is, says) few =
    let here = few_behind (codes "run" ∷ []) behind (subst AreFew is few) in
    let there = few_behind says.options (folder ∷ says.class ∷ says.behind) (subst AreFew says.words_are here) in
    few_arguments says.behind run.arguments says.are_arguments (few_behind (folder ∷ says.class ∷ []) says.behind there)
