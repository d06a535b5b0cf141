use Rattle.std.proofs.Common.{◌≡◌, ◌∙◌, ◌∷◌, ◌-◌, ap, arith, codes, drop, length, map, rules, string_bytes, subst, sym, take}
use Rattle.std.proofs.lemmas.List.{length-drop, take_all}
use Rattle.std.proofs.lemmas.Slice.Eq.{bytes_eq-Decides}
use Rattle.cb_runner.specs.Words.{IsRun}
use Rattle.cb_runner.proofs.FewItems.{from_one, tails}
use Rattle.cb_runner.proofs.Options.{match_on}
use Rattle.cb_runner.proofs.run_words.run_of.Goals as goal

pub returns-in-len1-up : goal.returns-in-len1-up
returns-in-len1-up c =
    let words = c.args.words.now in
    let size = length-drop 1 words in
    let same : take (length words - 1) (drop 1 words) ≡ drop 1 words = take_all (length words - 1) (drop 1 words) (omega (arith, size)) in
    let is_run : string_bytes c.command-item.result ≡ codes "run" = search (rules, bytes_eq-Decides) in
    let behind = map string_bytes (take (length words - 1) (drop 1 words)) in
    let is = ap (map string_bytes) (from_one words c.command-item.result (omega arith) c.command-item.is ∙ ap (λ rest. c.command-item.result ∷ rest) (sym same)) ∙ ap (λ first. first ∷ behind) is_run in
    match_on c.run_behind.result c.run_behind.ensures (λ none folder run (own, words_are, says). none folder run (subst (IsRun folder run) (tails (sym words_are ∙ is)) says)) (λ run says. (behind, is, says))
