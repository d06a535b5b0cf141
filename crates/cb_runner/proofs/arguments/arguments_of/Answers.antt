use Rattle.std.proofs.Common.{◌≡◌, ◌∙◌, ◌∷◌, ◌-◌, ap, arith, codes, drop, length, rules, string_bytes, sym, take}
use Rattle.std.proofs.lemmas.List.{length-drop, take_all}
use Rattle.std.proofs.lemmas.Slice.Eq.{bytes_eq-Decides}
use Rattle.cb_runner.proofs.FewItems.{from_one}
use Rattle.cb_runner.proofs.Plain.{none_so, parts_so, whole_so}
use Rattle.cb_runner.proofs.arguments.arguments_of.Goals as goal

pub returns-in-empty : goal.returns-in-empty
returns-in-empty c =
    whole_so c.args.words.now c.split_at.result.0.now c.split_at.result.1.now c.plain_count.result c.plain_count.ensures.within c.split_at.ensures.front c.split_at.ensures.back
    c.plain_count.ensures.plain (omega arith)

pub returns-then-eq : goal.returns-then-eq
returns-then-eq c =
    let back = c.split_at.result.1.now in
    let size = length-drop 1 back in
    let rest : take (length back - 1) (drop 1 back) ≡ drop 1 back = take_all (length back - 1) (drop 1 back) (omega (arith, size)) in
    let is = from_one back c.word-item.result (omega arith) c.word-item.is ∙ ap (λ rest. c.word-item.result ∷ rest) (sym rest) in
    let dashes : string_bytes c.word-item.result ≡ codes "--" = search (rules, bytes_eq-Decides) in
    parts_so c.args.words.now c.split_at.result.0.now back c.plain_count.result c.plain_count.ensures.within c.split_at.ensures.front c.split_at.ensures.back
    c.plain_count.ensures.plain c.word-item.result (take (length back - 1) (drop 1 back)) is dashes

pub returns-else-eq : goal.returns-else-eq
returns-else-eq c =
    let back = c.split_at.result.1.now in
    none_so c.args.words.now c.split_at.result.0.now back c.plain_count.result c.plain_count.ensures.within c.split_at.ensures.front c.split_at.ensures.back
    c.plain_count.ensures.plain c.word-item.result (drop 1 back) (from_one back c.word-item.result (omega arith) c.word-item.is) c.plain_count.ensures.first
    (λ is. let dashes : string_bytes c.word-item.result ≡ codes "--" = is in search (rules, bytes_eq-Decides))
