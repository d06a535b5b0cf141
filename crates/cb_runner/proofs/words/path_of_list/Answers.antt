use Rattle.std.proofs.Common.{◌≡◌, codes, string_bytes, map, ap, sym, subst, ◌∙◌, ◌∷◌, [], arith, rules}
use Rattle.std.proofs.lemmas.Bool.{false≢true}
use Rattle.std.proofs.lemmas.Slice.Eq.{bytes_eq-Decides}
use Rattle.cb_runner.specs.Words.{IsOption}
use Rattle.cb_runner.proofs.FewItems.{two}
use Rattle.cb_runner.proofs.words.path_of_list.Goals as goal

pub returns-then-not-is_option : goal.returns-then-not-is_option
returns-then-not-is_option c =
    let is_list : string_bytes c.command-item.result ≡ codes "list" = search (rules, bytes_eq-Decides) in
    let words = ap (map string_bytes) (two c.args.words.now c.command-item.result c.path-item.result (omega arith) c.command-item.is c.path-item.is) in
    let path = c.as_str-then-not-is_option.ensures.value in
    record {
      words_are = words ∙ (λ i. is_list i ∷ sym path i ∷ []);
      no_option = λ option. false≢true (c.if-not-is_option.ensures.1 (subst IsOption (path ∙ sym c.as_str-then-eq.ensures.value) option));
    }
