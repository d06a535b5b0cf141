use Rattle.std.proofs.Common.{rules, tests, ◌∙◌, ◌<◌, sym, arith, ℕ, List, length, map, string_bytes, nat_lt}
use Rattle.std.proofs.lemmas.Iterator.{YieldsList-from_slice}
use Rattle.std.proofs.lemmas.Iterator.Search.{all_from_yields_List}
use Rattle.std.proofs.lemmas.List.{length-map}
use Rattle.std.proofs.lemmas.List.Folds.{list_all-map}
use Rattle.std.proofs.lemmas.List.Sums.{AllPass-from_list_all, list_all-from_AllPass}
use Rattle.cb_runner.proofs.few.are_few.Goals as goal

pub returns-then-words-lt-TOO_MANY : goal.returns-then-words-lt-TOO_MANY
returns-then-words-lt-TOO_MANY c =
    let words = c.args.words.now in
    let size = length-map words string_bytes in
    let all = all_from_yields_List (λ word. nat_lt (length (string_bytes word)) 2147483648) _ _ c.all.result c.all.ensures.ran (YieldsList-from_slice words cc) (λ x b q k. search (rules, tests))
    ∙ sym (list_all-map (λ (word : List ℕ). nat_lt (length word) 2147483648) string_bytes words) in
    let few : length words < 2147483648 = search rules in (
      λ is. (omega (arith, few, size), λ k d below. let short = AllPass-from_list_all (λ (word : List ℕ). nat_lt (length word) 2147483648) (map string_bytes words) (sym all ∙ search rules) k d below in search (rules, tests)),
      λ is. let short = list_all-from_AllPass (λ (word : List ℕ). nat_lt (length word) 2147483648) (map string_bytes words) (λ k d below. let short = is.1 k d below in search (rules, tests)) in search rules,
    )
