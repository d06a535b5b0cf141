use Rattle.std.proofs.Common.{◌≡◌, ◌∙◌, ◌∷◌, ap, sym, subst, string_bytes, map, drop, arith, rules}
use Rattle.std.proofs.lemmas.Slice.Eq.{bytes_eq-Decides}
use Rattle.cb_runner.specs.Words.{TellsNumber}
use Rattle.cb_runner.proofs.FewItems.{from_two}
use Rattle.cb_runner.proofs.Options.{match_on, tells_front}
use Rattle.cb_runner.proofs.option.value_told.Goals as goal

pub returns-then-eq : goal.returns-then-eq
returns-then-eq c =
    let words = ap (map string_bytes) (from_two c.args.words.now c.first-item.result c.number-item.result (omega arith) c.first-item.is c.number-item.is) in
    let behind = map string_bytes (drop 2 c.args.words.now) in
    let is : string_bytes c.first-item.result ≡ c.args.name.now = search (rules, bytes_eq-Decides) in
    let number = c.as_str-then-eq.ensures.value in
    match_on c.number_of.result c.number_of.ensures
    (λ none value tells. none value (subst (TellsNumber c.args.most value) (sym number) (tells_front c.args.name.now c.args.most value (string_bytes c.first-item.result) (string_bytes c.number-item.result) behind _ words tells).1))
    (λ value tells. (string_bytes c.number-item.result, behind, words ∙ ap (λ first. first ∷ string_bytes c.number-item.result ∷ behind) is, subst (TellsNumber c.args.most value) number tells))

pub returns-else-eq : goal.returns-else-eq
returns-else-eq c = λ value tells.
    let words = ap (map string_bytes) (from_two c.args.words.now c.first-item.result c.number-item.result (omega arith) c.first-item.is c.number-item.is) in
    let is : string_bytes c.first-item.result ≡ c.args.name.now = sym (tells_front c.args.name.now c.args.most value (string_bytes c.first-item.result) (string_bytes c.number-item.result) (map string_bytes (drop 2 c.args.words.now)) _ words tells).0 in
    search (rules, bytes_eq-Decides)
