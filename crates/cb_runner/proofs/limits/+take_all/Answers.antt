use Rattle.std.proofs.Common.{◌∙◌, ◌-◌, ap, arith, drop, length, map, refl, string_bytes, sym, []}
use Rattle.std.proofs.lemmas.List.{drop-map, length-drop, take_all}
use Rattle.cb_runner.specs.Words.{NoMore}
use Rattle.cb_runner.proofs.Options.{takes_more}
use Rattle.cb_runner.proofs.limits.+take_all.Goals as goal

pub returns-in-Some : goal.returns-in-Some
returns-in-Some t c =
    let words = c.args.words.now in
    let behind = ap (map string_bytes) (take_all (length words - 2) (drop 2 words) (let size = length-drop 2 words in omega (arith, size))) ∙ sym (drop-map string_bytes 2 words) in
    takes_more _ _ _ _ _ _ c.in-Some.ensures behind c.take_all.ensures

pub returns-in-None : goal.returns-in-None
returns-in-None t c = record { front = []; adds = NoMore; words_are = refl; stops = c.in-None.ensures }
