use Rattle.std.proofs.Common.{◌∙◌, arith, ap, string_bytes, sym, subst}
use Rattle.std.proofs.lemmas.List.{get_or-map, length-map}
use Rattle.cb_runner.specs.Words.{IsShort}
use Rattle.cb_runner.proofs.arguments.push_texts.Goals as goal

pub text_of-requires : goal.text_of-requires
text_of-requires c =
    let words = c.args.words.now in
    let size = length-map words string_bytes in
    let short = c.requires c.loop-word.word-index (string_bytes c.word-item.result) (omega (arith, size, c.loop-word-test.true)) in
    subst IsShort (get_or-map string_bytes words c.loop-word.word-index c.word-item.result (string_bytes c.word-item.result) (omega (arith, c.loop-word-test.true)) ∙ ap string_bytes (sym c.word-item.is) ∙ sym c.as_str.ensures.value) short
